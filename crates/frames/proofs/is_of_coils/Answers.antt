use mathlib.Core.Path.{refl}
use Rattle.modbus.specs.Exceptions.{is_of_coils}
use Rattle.frames.proofs.is_of_coils.Goals as goal

pub returns : goal.returns
unfolding is_of_coils
returns c = refl
