-- The search from here on gives what the whole search gives. Assumes nothing.
use Rattle.std.proofs.Common.{◌≡◌, ◌-◌}
use Rattle.telling.specs.Spans.{marks_of, other_from, run_end}
use Rattle.telling.proofs.spans.run_end.Given as goal

abbrev pub invariant-loop-end : goal.invariant-loop-end
invariant-loop-end l = other_from (marks_of l.read l.written) l.k l.end (8000 - l.end) ≡ run_end l.read l.written l.i l.k
