-- What was counted and what is to come make the whole. Assumes nothing.
use Rattle.std.proofs.Common.{◌-◌, ◌≤◌}
use Rattle.beginnings.proofs.ChangeLaws.{Counted}
use Rattle.beginnings.proofs.changes.changed.Given as goal

abbrev pub invariant-loop-i : goal.invariant-loop-i
invariant-loop-i l = (l.count ≤ l.i) × (l.i ≤ l.n) × Counted l.old l.new l.count l.i

abbrev pub decreases-loop-i : goal.decreases-loop-i
decreases-loop-i l = l.n - l.i
