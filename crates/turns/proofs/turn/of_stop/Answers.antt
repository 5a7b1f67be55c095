-- Each answer by its constructor. Assumes nothing.
use mathlib.Core.Path.{refl}
use Rattle.turns.specs.Turns.{answer_of}
use Rattle.turns.proofs.turn.of_stop.Goals as goal

pub returns-in-Ended : goal.returns-in-Ended
unfolding answer_of
returns-in-Ended c = rw c.in-Ended.is refl

pub returns-in-Watchdog : goal.returns-in-Watchdog
unfolding answer_of
returns-in-Watchdog c = rw c.in-Watchdog.is refl
