-- `unit_texts::read` meets its contract. The loop's invariant: what was read makes the table, and with what is to come the whole. Assumes nothing.
use Prim.Native.Nat.{◌-◌}
use lib.ListN.{length}
use Rattle.unit_texts.proofs.Held.{Passed}
use Rattle.unit_texts.proofs.read.Given as goal

abbrev pub invariant-loop-from : goal.invariant-loop-from
invariant-loop-from l = Passed l.s l.from l.count l.table

abbrev pub decreases-loop-from : goal.decreases-loop-from
decreases-loop-from l = length l.s - l.from
