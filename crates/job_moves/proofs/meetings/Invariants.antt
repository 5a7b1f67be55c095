-- The loop's invariant: what is told of the lines from number i on is what is told of all.
use mathlib.Core.Path.{◌≡◌}
use Rattle.job_moves.proofs.Meeting.{from}
use Rattle.job_moves.proofs.meetings.Given as goal

abbrev pub invariant-loop-i : goal.invariant-loop-i
invariant-loop-i l = from l.lines 0 ≡ from l.lines l.i
