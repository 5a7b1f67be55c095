-- The loop's invariant: the first i bytes are filled, and v is the next. Assumes nothing.
use Rattle.std.proofs.Common.{◌≡◌, ◌+◌, ◌*◌, ◌%◌}
use Rattle.cases.proofs.Filling.{Filling}
use Rattle.cases.proofs.drawing.rising.Given as goal

abbrev pub invariant-loop-i : goal.invariant-loop-i
invariant-loop-i l = (Filling l.initial.b l.i (λ j. (l.first + l.by * j) % 256) l.b) × (l.v ≡ (l.first + l.by * l.i) % 256)
