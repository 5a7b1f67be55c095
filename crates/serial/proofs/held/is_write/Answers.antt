-- The same tests in the same order. Assumes nothing.
use mathlib.Core.Path.{refl}
use Rattle.serial.specs.Held.{is_write}
use Rattle.serial.proofs.held.is_write.Goals as goal

pub returns : goal.returns
unfolding is_write
returns c = refl
