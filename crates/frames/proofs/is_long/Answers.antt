use mathlib.Core.Path.{refl}
use Rattle.modbus.specs.Frame.{is_long}
use Rattle.frames.proofs.is_long.Goals as goal

pub returns : goal.returns
unfolding is_long
returns c = refl
