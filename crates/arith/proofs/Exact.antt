-- At every width: an exact sum is near the range. Assumes nothing.
use mathlib.Core.Path.{◌≡◌, refl}
use mathlib.Core.Bool.{true}
use Prim.Native.Nat.{ℕ, ◌+◌, ◌≤◌, ◌<◌, ◌^◌}
use native.Mathlib.Omega.{arith}
use lib.IntN.{ℤ, pos, negsuc, neg_ℤ, nat_abs, ◌+ℤ◌}
use lib.Signed.{lt_z, mag}
use mir.Syntax.{w64}
use mir.Val.{SFits}
use Rattle.ints.proofs.Parts.{range-parts, parts-range, abs-parts, lt_z-true, add_parts}

-- a number near the range fits 64 bits
pub near_fits : (h : ℕ) {z : ℤ} → h ≤ 2 ^ 31 → mag z < h + h → SFits w64 z
near_fits h small near = record { sfits = omega arith }

module _ (h : ℕ) (a b : ℤ) (fa : mag a < h) (fb : nat_abs b ≤ h) where
  pub sum_near : mag (a +ℤ b) < h + h
  sum_near =
      let p = range-parts h a fa in
      let q = abs-parts b in
      let e = add_parts a b in
      parts-range (h + h) (a +ℤ b) (omega arith) (omega arith)

-- the opposite of a negative number is its size
pub size-neg : (a : ℤ) → lt_z a (pos 0) ≡ true → neg_ℤ a ≡ pos (nat_abs a)
size-neg (pos n) e = absurd (omega (arith, lt_z-true (pos n) (pos 0) e))
size-neg (negsuc n) e = refl
