use native.Mathlib.Omega.{arith}
use Rattle.instructions.proofs.Rows.{row-at, row-past}
use Rattle.instructions.proofs.RowTable.row_in.Goals as goal

pub returns-then-n-lt56 : goal.returns-then-n-lt56
returns-then-n-lt56 c = row-at _ _ c.args.self.now.told

pub returns-else-n-lt56 : goal.returns-else-n-lt56
returns-else-n-lt56 c = row-past _ (omega arith)
