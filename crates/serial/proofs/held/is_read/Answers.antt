-- The same tests in the same order. Assumes nothing.
use mathlib.Core.Path.{refl}
use Rattle.serial.specs.Held.{is_read}
use Rattle.serial.proofs.held.is_read.Goals as goal

pub returns : goal.returns
unfolding is_read
returns c = refl
