-- The invariant: v is the number that the bytes passed make. Assumes nothing.
use mathlib.Core.Path.{◌≡◌}
use Prim.Native.Nat.{◌*◌}
use Rattle.ec20.specs.Bits.{packed}
use Rattle.bits.proofs.fewer.Given as goal

abbrev pub invariant-loop-i : goal.invariant-loop-i
invariant-loop-i l = l.v ≡ packed l.bits (8 * l.at) (8 * l.i)
