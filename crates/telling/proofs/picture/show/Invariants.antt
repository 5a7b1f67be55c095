-- The words that are left fall. Assumes nothing.
use Rattle.std.proofs.Common.{◌-◌, ◌≤◌}
use Rattle.telling.proofs.picture.show.Given as goal

abbrev pub invariant-loop-first : goal.invariant-loop-first
invariant-loop-first l = l.first ≤ 8100

abbrev pub decreases-loop-first : goal.decreases-loop-first
decreases-loop-first l = 8000 - l.first
