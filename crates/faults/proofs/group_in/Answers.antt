use mathlib.Core.Path.{refl}
use Rattle.ec20.specs.Operands.{group_in}
use Rattle.faults.proofs.group_in.Goals as goal

pub returns : goal.returns
unfolding group_in
returns c = rw c.in_range.ensures refl
