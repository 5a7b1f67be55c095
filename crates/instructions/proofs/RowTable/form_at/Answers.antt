use mathlib.Core.Path.{ap}
use Rattle.ec20.specs.declared.Row.{Row}
use Rattle.instructions.proofs.Rows.{row-at}
use Rattle.instructions.proofs.RowTable.form_at.Goals as goal

pub returns : goal.returns
returns c = ap (λ (r : Row). r.form) (row-at _ _ c.args.self.now.told)
