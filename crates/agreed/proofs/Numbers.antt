-- As many numbers as are told apart in m: at most m. Assumes nothing.
use Prim.Native.Nat.{ℕ, zero, suc, ◌≤◌, ◌<◌}
use mathlib.Core.Logic.{◌⊎◌, inl, inr}
use mathlib.Core.Path.{◌≡◌, subst}
use native.Mathlib.Decide.{ℕ_discrete}
use native.Mathlib.Omega.{arith}

-- each number below n has a partner below m
abbrev Partners : (ℕ → ℕ → Type 0) → ℕ → ℕ → Type 0
Partners R n m = (k : ℕ) → k < n → (y : ℕ) × (y < m) × (R k y)

-- no two of them have one partner
abbrev Apart : (ℕ → ℕ → Type 0) → ℕ → Type 0
Apart R n = (k l y : ℕ) → k < n → l < n → R k y → R l y → k ≡ l

-- without the last number, and without the partner m: who had that gets the last one's
abbrev Without : (ℕ → ℕ → Type 0) → ℕ → ℕ → ℕ → ℕ → Type 0
Without R n m k y = (R k y) ⊎ ((R k m) × (R n y))

apart-still : (R : ℕ → ℕ → Type 0) (n m : ℕ) → Apart R (suc n) → Apart (Without R n m) n
apart-still R n m d k l y a b (inl r) (inl s) = d k l y (omega arith) (omega arith) r s
apart-still R n m d k l y a b (inl r) (inr s) = absurd (omega (arith, d k n y (omega arith) (omega arith) r s.1))
apart-still R n m d k l y a b (inr r) (inl s) = absurd (omega (arith, d l n y (omega arith) (omega arith) s r.1))
apart-still R n m d k l y a b (inr r) (inr s) = d k l m (omega arith) (omega arith) r.0 s.0

partners-still : (R : ℕ → ℕ → Type 0) (n m : ℕ) → Partners R (suc n) (suc m) → Apart R (suc n) → Partners (Without R n m) n m
partners-still R n m p d k l =
    let x = p k (omega arith) in
    let y = p n (omega arith) in
    elim (ℕ_discrete x.0 m) [
      | yes e ↦
          let r : R k m = subst (R k) e x.2 in
          elim (ℕ_discrete y.0 m) [
            | yes f ↦ absurd (omega (arith, l, d k n m (omega arith) (omega arith) r (subst (R n) f y.2)))
            | no f ↦ (y.0, omega (arith, f, y.1), inr (r, y.2))
          ]
      | no e ↦ (x.0, omega (arith, e, x.1), inl x.2)
    ]

pub at_most : (n m : ℕ) (R : ℕ → ℕ → Type 0) → ((k : ℕ) → k < n → (y : ℕ) × (y < m) × (R k y)) → ((k l y : ℕ) → k < n → l < n → R k y → R l y → k ≡ l) → n ≤ m
at_most zero m R p d = omega arith
at_most (suc n) zero R p d = absurd (let y = p n (omega arith) in omega (arith, y.1))
at_most (suc n) (suc m) R p d =
    let h : n ≤ m = at_most n m (Without R n m) (partners-still R n m p d) (apart-still R n m d) in
    omega arith
