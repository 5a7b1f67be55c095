-- The invariant: the bytes passed are put. Assumes nothing.
use mathlib.Core.Path.{◌≡◌}
use Prim.Native.Nat.{◌*◌}
use Rattle.ec20.specs.Bits.{spread}
use Rattle.bits.proofs.put_fewer.Given as goal

abbrev pub invariant-loop-i : goal.invariant-loop-i
invariant-loop-i l = l.bits ≡ spread l.initial.bits (8 * l.at) (8 * l.i) l.v
