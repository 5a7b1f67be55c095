use mathlib.Core.Path.{refl}
use Rattle.modbus.specs.Frame.{is_short}
use Rattle.frames.proofs.is_short.Goals as goal

pub returns : goal.returns
unfolding is_short
returns c = refl
