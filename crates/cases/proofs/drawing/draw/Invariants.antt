-- The loop's invariant: the first i bytes are drawn, and x is the state after them. Assumes nothing.
use Rattle.std.proofs.Common.{◌≡◌, suc}
use Rattle.cases.specs.Drawn.{state_of, byte_by}
use Rattle.cases.proofs.Filling.{Filling}
use Rattle.cases.proofs.drawing.draw.Given as goal

abbrev pub invariant-loop-i : goal.invariant-loop-i
invariant-loop-i l =
    (Filling l.initial.b l.i (λ j. byte_by l.rule l.bits j (state_of l.bits l.seed (suc j))) l.b) × (l.x ≡ state_of l.bits l.seed l.i)
