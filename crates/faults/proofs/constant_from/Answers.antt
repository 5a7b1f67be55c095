use mathlib.Core.Path.{refl}
use Rattle.ec20.specs.Operands.{constant_in}
use Rattle.faults.proofs.constant_from.Goals as goal

pub returns : goal.returns
unfolding constant_in
returns c = rw c.fits_from.ensures refl
