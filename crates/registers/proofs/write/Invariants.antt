-- The invariant: the first i registers have their numbers, and the table keeps its length. Assumes nothing.
use lib.ListN.{length}
use mathlib.Core.Path.{◌≡◌}
use Rattle.modbus.specs.Writes.{registers_taken}
use Rattle.registers.proofs.write.Given as goal

abbrev pub invariant-loop-i : goal.invariant-loop-i
invariant-loop-i l = (l.d ≡ registers_taken l.initial.d l.a l.f l.i) × (length l.d ≡ length l.initial.d)
