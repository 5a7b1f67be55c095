use mathlib.Core.Path.{refl}
use Rattle.modbus.specs.Exceptions.{is_single}
use Rattle.frames.proofs.is_single.Goals as goal

pub returns : goal.returns
unfolding is_single
returns c = refl
