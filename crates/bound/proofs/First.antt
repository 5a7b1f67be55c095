-- The first record that passes a test, and two searches that find the same.
use Prim.Native.Nat.{ℕ, zero, suc, ◌+◌, ◌<◌, ◌≤◌}
use mathlib.Core.Bool.{Bool, true, false, not}
use mathlib.Core.Path.{◌≡◌, refl, sym, ap}
use native.Mathlib.Omega.{arith}
use native.Mathlib.Decide.{ℕ_discrete}
use lib.Dec.{eqb}
use borrow.Author.Tests.{eqb-true}
use Rattle.ec20.specs.Found.{Found}
use Rattle.ec20.specs.Found.{At, Nowhere}
use Rattle.ec20.specs.Basics.{pick, first_at}
use Rattle.ec20.specs.Labels.{same}

-- what fails at k and at all after it fails from k on
from-here : (test : ℕ → Bool) (k t : ℕ) → test k ≡ false → ((i : ℕ) → k + 1 ≤ i → i < t → test i ≡ false)
    → (j : ℕ) → k ≤ j → j < t → test j ≡ false
from-here test k t f g j p q = elim (ℕ_discrete j k) [ yes d ↦ rw d f | no d ↦ g j (omega arith) q ]

-- a search that finds nothing
pub no-first : (test : ℕ → Bool) (n k : ℕ) → first_at test k n ≡ Nowhere → (j : ℕ) → k ≤ j → j < k + n → test j ≡ false
unfolding first_at
no-first test zero k e = λ j a b. absurd (omega arith)
no-first test (suc n) k e = go (test k) refl e (λ g j a b. no-first test n (k + 1) g j a (omega arith))
  where
    go : (t : Bool) → test k ≡ t → pick t (At k) (first_at test (k + 1) n) ≡ Nowhere
        → (first_at test (k + 1) n ≡ Nowhere → (j : ℕ) → k + 1 ≤ j → j < k + suc n → test j ≡ false) → (j : ℕ) → k ≤ j → j < k + suc n
        → test j ≡ false
    go true f g rec = let z : ◌≡◌ {A = ℕ} 0 1 = cc in absurd (omega arith)
    go false f g rec = from-here test k (k + suc n) f (rec g)

-- t is the first of the n numbers from k on that passes
pub record First (test : ℕ → Bool) (n k t : ℕ) : Type 0 where
  pub passes : test t ≡ true
  pub none : (j : ℕ) → k ≤ j → j < t → test j ≡ false
  pub low : k ≤ t
  pub high : t < k + n

pub first-at : (test : ℕ → Bool) (n k t : ℕ) → first_at test k n ≡ At t → First test n k t
unfolding first_at
first-at test zero k t e = let z : ◌≡◌ {A = ℕ} 0 1 = cc in absurd (omega arith)
first-at test (suc n) k t e = go (test k) refl e (λ g. first-at test n (k + 1) t g)
  where
    go : (b : Bool) → test k ≡ b → pick b (At k) (first_at test (k + 1) n) ≡ At t → (first_at test (k + 1) n ≡ At t → First test n (k + 1) t)
        → First test (suc n) k t
    go true f g rec =
        let a : k ≡ t = cc in
        record { passes = rw a at f; none = λ j p q. absurd (omega arith); low = omega arith; high = omega arith }
    go false f g rec =
        let r = rec g in
        record { passes = r.passes; none = from-here test k t f r.none; low = omega (arith, r.low); high = omega (arith, r.high) }

-- two searches that find the same
pub same_true : (a b : Found) → not (same a b) ≡ false → (t : ℕ) × (a ≡ At t) × (b ≡ At t)
unfolding same
same_true (At t) (At u) e = go (eqb t u) refl e
  where
    go : (x : Bool) → eqb t u ≡ x → not x ≡ false → (i : ℕ) × (◌≡◌ {A = Found} (At t) (At i)) × (◌≡◌ {A = Found} (At u) (At i))
    go true f g = (t, refl, ap At (sym (eqb-true t u f)))
    go false f g = let z : ◌≡◌ {A = ℕ} 0 1 = cc in absurd (omega arith)
same_true (At t) Nowhere e = let z : ◌≡◌ {A = ℕ} 0 1 = cc in absurd (omega arith)
same_true Nowhere (At u) e = let z : ◌≡◌ {A = ℕ} 0 1 = cc in absurd (omega arith)
same_true Nowhere Nowhere e = let z : ◌≡◌ {A = ℕ} 0 1 = cc in absurd (omega arith)
