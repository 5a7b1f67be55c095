use mathlib.Core.Path.{refl}
use Rattle.crc.specs.Eights.{plus3}
use Rattle.crc.proofs.eights.three.Goals as goal

pub returns : goal.returns
unfolding plus3
returns c = refl
