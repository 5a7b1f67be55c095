use mathlib.Core.Path.{refl}
use Rattle.ec20.specs.Operands.{is_unused}
use Rattle.faults.proofs.is_unused.Goals as goal

pub returns : goal.returns
unfolding is_unused
returns c = refl
