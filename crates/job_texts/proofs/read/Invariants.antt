-- `job_texts::read` meets its contract. The loop's invariant: what was read is in the room, and with what is to come it makes the whole. Assumes nothing.
use Prim.Native.Nat.{◌-◌}
use lib.ListN.{length}
use Rattle.job_texts.proofs.Held.{Passed}
use Rattle.job_texts.proofs.read.Given as goal

abbrev pub invariant-loop-from : goal.invariant-loop-from
invariant-loop-from l = Passed l.s l.initial.lines l.from l.count l.lines

abbrev pub decreases-loop-from : goal.decreases-loop-from
decreases-loop-from l = length l.s - l.from
