-- Each answer by its constructor. Assumes nothing.
use mathlib.Core.Path.{refl}
use Rattle.turns.specs.Turns.{answer_of}
use Rattle.turns.proofs.turn.answer_of.Goals as goal

pub returns-in-Ok : goal.returns-in-Ok
returns-in-Ok c = rw c.in-Ok.is c.of_stop.ensures

pub returns-in-Err : goal.returns-in-Err
unfolding answer_of
returns-in-Err c = rw c.in-Err.is refl
