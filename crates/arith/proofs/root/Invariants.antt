-- The invariant: the bits from some place up are judged. The measure is the place. Assumes nothing.
use Rattle.arith.proofs.Roots.{Judged}
use Rattle.arith.proofs.root.Given as goal

abbrev pub invariant-loop-place : goal.invariant-loop-place
invariant-loop-place l = Judged l.n l.rest l.r l.place

abbrev pub decreases-loop-place : goal.decreases-loop-place
decreases-loop-place l = l.place
