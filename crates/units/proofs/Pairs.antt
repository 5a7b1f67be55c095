-- How many pairs so many places have. Assumes nothing.
use Prim.Native.Nat.{ℕ, zero, suc, ◌+◌, ◌-◌, ◌≤◌}
use mathlib.Core.Path.{◌≡◌, ap, subst}
use native.Mathlib.Omega.{arith}

-- the pairs of n places: each with those after it
unfoldable pub pairs_of : ℕ → ℕ
pairs_of zero = 0
pairs_of (suc n) = n + pairs_of n

more-places : (n k : ℕ) → pairs_of n ≤ pairs_of (k + n)
unfolding pairs_of
more-places n zero = subst (λ (m : ℕ). pairs_of n ≤ pairs_of m) {x = n} {y = 0 + n} (omega arith) (omega arith)
more-places n (suc k) =
    let e : pairs_of (suc k + n) ≡ (k + n) + pairs_of (k + n) = ap pairs_of {x = suc k + n} {y = suc (k + n)} (omega arith) in
    omega (arith, more-places n k, e)

-- 64 places have 2,016
pub of-64 : (n : ℕ) → n ≤ 64 → pairs_of n ≤ 2016
unfolding pairs_of
of-64 n l = subst (λ (m : ℕ). pairs_of n ≤ pairs_of m) {x = (64 - n) + n} {y = 64} (omega arith) (more-places n (64 - n))
