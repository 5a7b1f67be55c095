use Rattle.ec20.specs.Memory.{sized}
use mathlib.Core.Path.{refl}
use Rattle.engine.proofs.sizes_fit.Goals as goal

pub returns : goal.returns
unfolding sized
returns c = refl
