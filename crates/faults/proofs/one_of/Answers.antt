use mathlib.Core.Path.{refl}
use Rattle.ec20.specs.Operands.{one_of}
use Rattle.faults.proofs.one_of.Goals as goal

pub returns : goal.returns
unfolding one_of
returns c = rw c.in_range.ensures refl
