-- The loop's invariant: the search from line j on finds what the whole search finds.
use mathlib.Core.Path.{◌≡◌}
use Rattle.job_moves.proofs.Meeting.{ahead}
use Rattle.job_moves.proofs.met_by.Given as goal

abbrev pub invariant-loop-j : goal.invariant-loop-j
invariant-loop-j l = ahead l.lines l.i 0 ≡ ahead l.lines l.i l.j
