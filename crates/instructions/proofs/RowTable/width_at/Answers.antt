use mathlib.Core.Path.{ap}
use Rattle.ec20.specs.declared.Row.{Row}
use Rattle.instructions.proofs.Rows.{row-at}
use Rattle.instructions.proofs.RowTable.width_at.Goals as goal

pub returns : goal.returns
returns c = ap (λ (r : Row). r.first.width) (row-at _ _ c.args.self.now.told)
