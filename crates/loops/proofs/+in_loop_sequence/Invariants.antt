-- The two walkers, by one measure: the records that remain, which fall at each call of either by either.
use Prim.Native.Nat.{◌-◌, ◌<◌, ◌≤◌}
use Rattle.loops.specs.Capped.{cap}
use Rattle.loops.specs.Walks.{controls_in}
use Rattle.loops.proofs.Laws.{Ahead}
use Rattle.loops.proofs.+in_loop_sequence.Given as goal

-- count - at, and count - body
abbrev pub decreases-in_loop : goal.decreases-in_loop
decreases-in_loop l = l.count - l.body

abbrev pub decreases-sequence : goal.decreases-sequence
decreases-sequence l = l.count - l.at

-- the walk has come to record k: what is to come from there makes the whole
abbrev pub invariant-sequence-loop-k : goal.invariant-sequence-loop-k
invariant-sequence-loop-k l =
    ((l.at ≤ l.k) × (l.k < l.count)) × ((l.steps ≤ cap) × Ahead (controls_in l.f l.first l.count) l.count l.depth l.at l.k l.steps)

abbrev pub decreases-sequence-loop-k : goal.decreases-sequence-loop-k
decreases-sequence-loop-k l = l.count - l.k
