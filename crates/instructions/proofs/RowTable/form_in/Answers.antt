use native.Mathlib.Omega.{arith}
use mathlib.Core.Path.{ap}
use Rattle.ec20.specs.declared.Row.{Row}
use Rattle.instructions.proofs.Rows.{row-at, row-past}
use Rattle.instructions.proofs.RowTable.form_in.Goals as goal

pub returns-then-n-lt56 : goal.returns-then-n-lt56
returns-then-n-lt56 c = ap (λ (r : Row). r.form) (row-at _ _ c.args.self.now.told)

pub returns-else-n-lt56 : goal.returns-else-n-lt56
returns-else-n-lt56 c = ap (λ (r : Row). r.form) (row-past _ (omega arith))
