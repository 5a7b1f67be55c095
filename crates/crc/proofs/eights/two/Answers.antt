use mathlib.Core.Path.{refl}
use Rattle.crc.specs.Eights.{plus2}
use Rattle.crc.proofs.eights.two.Goals as goal

pub returns : goal.returns
unfolding plus2
returns c = refl
