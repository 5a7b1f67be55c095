-- Division's ranges. Assumes nothing.
use mathlib.Core.Path.{◌≡◌}
use mathlib.Core.Bool.{false}
use Prim.Native.Nat.{ℕ, zero, suc, ◌/◌, ◌≤◌, ◌<◌}
use native.Mathlib.Nat.{div-le_self, le_trans}
use native.Mathlib.Omega.{arith}
use borrow.Author.Tests.{eqb-false}
use lib.IntN.{ℤ, pos, negsuc, neg_ℤ, nat_abs}
use lib.Signed.{mag, quot_z}
use mir.Syntax.{w64}
use mir.Val.{SFits, of_z, to_z}
use mir.Facts.{to_z-of_z}
use Rattle.ec20.specs.Numbers.{is_zero}

-- a number that is not 0 has bits
pub has-bits : (z : ℤ) → SFits w64 z → is_zero z ≡ false → 0 < of_z w64 z
has-bits (pos zero) f e = absurd (eqb-false 0 0 e (omega arith))
has-bits (pos (suc n)) f e = omega arith
has-bits (negsuc n) f e = let h = f.sfits in omega arith

pub mag-negated : (n : ℕ) → mag (neg_ℤ (pos n)) ≤ n
mag-negated zero = omega arith
mag-negated (suc n) = omega arith

pub mag-quot : (a b : ℤ) → mag (quot_z a b) ≤ nat_abs a
mag-quot (pos a) (pos b) = div-le_self a b
mag-quot (pos a) (negsuc b) = le_trans (mag-negated (a / suc b)) (div-le_self a (suc b))
mag-quot (negsuc a) (pos b) = le_trans (mag-negated (suc a / b)) (div-le_self (suc a) b)
mag-quot (negsuc a) (negsuc b) = div-le_self (suc a) (suc b)

-- what a signed division asks
pub asked : (a b : ℤ) → SFits w64 a → SFits w64 b → is_zero b ≡ false → SFits w64 (quot_z a b) → (0 < of_z w64 b) × SFits w64 (quot_z (to_z w64 (of_z w64 a)) (to_z w64 (of_z w64 b)))
asked a b fa fb nz q = (has-bits b fb nz, rw (to_z-of_z fa, to_z-of_z fb) q)
