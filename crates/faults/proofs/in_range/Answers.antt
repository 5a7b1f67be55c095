use mathlib.Core.Path.{refl}
use Rattle.ec20.specs.Operands.{in_range}
use Rattle.faults.proofs.in_range.Goals as goal

pub returns : goal.returns
unfolding in_range
returns c = rw c.limit.ensures refl
