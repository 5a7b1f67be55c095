-- Numbers in a row, the n from a on: as the definitions test them, and by the numbers. Assumes nothing.
use Prim.Native.Nat.{ℕ, ◌+◌, ◌-◌, ◌≤◌, ◌<◌}
use mathlib.Core.Bool.{true, false, ◌&&◌}
use mathlib.Core.Logic.{inl, inr}
use mathlib.Core.Path.{◌≡◌, refl, sym, ap₂, ◌∙◌}
use native.Mathlib.Decide.{dec_lt, dec_le}
use native.Mathlib.Omega.{arith}
use lib.Dec.{ltb, leb}
use borrow.Author.Tests.{ltb-true, leb-true, leb-false, lt-ltb, le-ltb, le-leb, lt-leb}
use Rattle.ec20.proofs.Tests.{both, differ, one-fails}
use Rattle.ec20.specs.Devices.{within, meets, inside}

-- ---- a number among the n from a on

module _ (a n i : ℕ) where
  pub within-yes : a ≤ i → i < a + n → within a n i ≡ true
  unfolding within
  within-yes h g = rw (le-leb _ _ h, lt-ltb _ _ g) refl

  pub within-no : (a ≤ i → a + n ≤ i) → within a n i ≡ false
  unfolding within
  within-no h =
      elim (dec_le a i) [
        | yes g ↦ rw (le-leb _ _ g, le-ltb _ _ (h g)) refl
        | no g ↦ let l : i < a = omega arith in rw (lt-leb _ _ l) refl
      ]

  pub is_within : within a n i ≡ true → (a ≤ i) × (i < a + n)
  unfolding within
  is_within e = let h = both (leb a i) (ltb i (a + n)) e in (leb-true _ _ h.0, ltb-true _ _ h.1)

  pub not_within : within a n i ≡ false → a ≤ i → a + n ≤ i
  not_within e h =
      elim (dec_le (a + n) i) [ yes g ↦ g | no g ↦ differ (sym (within-yes h (omega arith)) ∙ e) ]

-- a row is longer by one: no other number is in it for that
pub within_more : (a n i : ℕ) → (i ≡ a + n → ⊥) → within a (n + 1) i ≡ within a n i
within_more a n i h =
    elim (dec_le a i) [
      | yes g ↦ elim (dec_le (a + n) i) [
        | yes k ↦ within-no a (n + 1) i (λ _. omega (arith, h)) ∙ sym (within-no a n i (λ _. k))
        | no k ↦ within-yes a (n + 1) i g (omega arith) ∙ sym (within-yes a n i g (omega arith))
      ]
      | no g ↦ within-no a (n + 1) i (λ k. absurd (g k)) ∙ sym (within-no a n i (λ k. absurd (g k)))
    ]

-- ---- two rows

module _ (a n b m : ℕ) where
  pub meets-yes : a < b + m → b < a + n → meets a n b m ≡ true
  unfolding meets
  meets-yes l u = ap₂ ◌&&◌ (lt-ltb _ _ l) (lt-ltb _ _ u)

  pub is-meets : meets a n b m ≡ true → (a < b + m) × (b < a + n)
  unfolding meets
  is-meets e = let h = both (ltb a (b + m)) (ltb b (a + n)) e in (ltb-true _ _ h.0, ltb-true _ _ h.1)

  -- rows that meet, neither of them empty, have a number in common
  pub common : 0 < n → 0 < m → meets a n b m ≡ true → (i : ℕ) × (a ≤ i) × (i < a + n) × (b ≤ i) × (i < b + m)
  common x y e =
      let h = is-meets e in
      let l : a < b + m = h.0 in
      let u : b < a + n = h.1 in
      elim (dec_lt a b) [ yes z ↦ (b, omega arith, omega arith, omega arith, omega arith) | no z ↦ (a, omega arith, omega arith, omega arith, omega arith) ]

  pub common-meets : (i : ℕ) → a ≤ i → i < a + n → b ≤ i → i < b + m → meets a n b m ≡ true
  common-meets i w x y z = meets-yes (omega arith) (omega arith)

  -- one inside the other
  pub inside-yes : b ≤ a → a + n ≤ b + m → inside a n b m ≡ true
  unfolding inside
  inside-yes l u = ap₂ ◌&&◌ (le-leb _ _ l) (le-leb _ _ u)

  pub is-inside : inside a n b m ≡ true → (b ≤ a) × (a + n ≤ b + m)
  unfolding inside
  is-inside e = let h = both (leb b a) (leb (a + n) (b + m)) e in (leb-true _ _ h.0, leb-true _ _ h.1)

  -- one that is not inside the other, and not empty, has a number that is not in it
  pub one_out : 0 < n → inside a n b m ≡ false → (i : ℕ) × (a ≤ i) × (i < a + n) × (b ≤ i → i < b + m → ⊥)
  unfolding inside
  one_out h e =
      elim (one-fails (leb b a) (leb (a + n) (b + m)) e) [
        | inl q ↦ let x : a < b = leb-false _ _ q in (a, omega arith, omega arith, λ y z. omega arith)
        | inr q ↦ let x : b + m < a + n = leb-false _ _ q in (a + n - 1, omega arith, omega arith, λ y z. omega arith)
      ]
