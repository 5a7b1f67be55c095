-- As many bytes were drawn as turns were made. Assumes nothing.
use mathlib.Core.Path.{◌≡◌}
use lib.ListN.{length}
use Rattle.ec20.specs.Buffer.{sent}
use Rattle.turns.specs.Turns.{state_after, drawn}
use Rattle.turns.proofs.images.draw.Given as goal

abbrev pub invariant-loop-i : goal.invariant-loop-i
invariant-loop-i l = (l.s ≡ state_after l.i l.state) × (l.a ≡ sent (drawn l.i l.state) l.initial.a) × (l.b ≡ sent (drawn l.i l.state) l.initial.b) × (length l.a ≡ length l.initial.a) × (length l.b ≡ length l.initial.b)
