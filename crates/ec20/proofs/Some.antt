-- Some number of n from k on passes a test: from the test to the one that passes, and back. Assumes nothing.
use Prim.Native.Nat.{ℕ, zero, suc, ◌+◌, ◌≤◌, ◌<◌}
use mathlib.Core.Bool.{Bool, true, false, ◌||◌}
use mathlib.Core.Logic.{inl, inr}
use mathlib.Core.Path.{◌≡◌, sym, ap, subst, ◌∙◌}
use native.Mathlib.Decide.{ℕ_discrete}
use native.Mathlib.Omega.{arith}
use Rattle.ec20.proofs.Tests.{either, neither, differ, or_right}
use Rattle.ec20.specs.Basics.{some_from}

-- one that does
pub some_at : (p : ℕ → Bool) (k n : ℕ) → some_from p k n ≡ true → (j : ℕ) × (k ≤ j) × (j < k + n) × (p j ≡ true)
unfolding some_from
some_at p k zero e = differ (sym e)
some_at p k (suc n) e =
    elim (either (p k) (some_from p (suc k) n) e) [
      | inl h ↦ (k, omega arith, omega arith, h)
      | inr h ↦ let r = some_at p (suc k) n h in (r.0, omega (arith, r.1), omega (arith, r.2), r.3)
    ]

-- and one that does makes it so
pub at_some : (p : ℕ → Bool) (k n j : ℕ) → k ≤ j → j < k + n → p j ≡ true → some_from p k n ≡ true
unfolding some_from
at_some p k zero j l u e = absurd (omega arith)
at_some p k (suc n) j l u e =
    elim (ℕ_discrete k j) [
      | yes d ↦ ap (λ (b : Bool). b || some_from p (suc k) n) (ap p d ∙ e)
      | no d ↦ or_right (p k) _ (at_some p (suc k) n j (omega arith) (omega arith) e)
    ]

-- none of them passes
pub none-at : (p : ℕ → Bool) (k n : ℕ) → some_from p k n ≡ false → (j : ℕ) → k ≤ j → j < k + n → p j ≡ false
unfolding some_from
none-at p k zero e j l u = absurd (omega arith)
none-at p k (suc n) e j l u =
    let q = neither (p k) (some_from p (suc k) n) e in
    elim (ℕ_discrete k j) [
      | yes z ↦ subst (λ (i : ℕ). p i ≡ false) z q.0
      | no z ↦ none-at p (suc k) n q.1 j (omega arith) (omega arith)
    ]
