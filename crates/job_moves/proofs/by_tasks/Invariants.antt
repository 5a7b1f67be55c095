-- The loop's invariant: what is told of the lines from number `line` on is what is told of all.
use mathlib.Core.Path.{◌≡◌}
use Rattle.job_moves.proofs.Judging.{from}
use Rattle.job_moves.specs.Ready.{meetings_in}
use Rattle.job_moves.proofs.by_tasks.Given as goal

abbrev pub invariant-loop-line : goal.invariant-loop-line
invariant-loop-line l = from l.f l.lines (meetings_in l.lines) 0 ≡ from l.f l.lines (meetings_in l.lines) l.line
