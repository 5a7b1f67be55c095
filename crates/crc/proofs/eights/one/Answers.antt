use mathlib.Core.Path.{refl}
use Rattle.crc.specs.Eights.{plus}
use Rattle.crc.proofs.eights.one.Goals as goal

pub returns : goal.returns
unfolding plus
returns c = refl
