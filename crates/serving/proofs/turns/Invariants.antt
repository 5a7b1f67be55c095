-- What is held keeps its room. Assumes nothing.
use Rattle.std.proofs.Common.{◌≡◌, length}
use Rattle.serving.proofs.turns.Given as goal

abbrev pub invariant-loop-turn : goal.invariant-loop-turn
invariant-loop-turn g l = length l.held ≡ length l.initial.held
