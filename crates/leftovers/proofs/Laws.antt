-- A table of leftovers, by its two bytes. Assumes nothing.
use Prim.Native.Nat.{ℕ, ◌+◌, ◌/◌, ◌<◌, ◌≤◌}
use mathlib.Core.Bool.{true, false, ◌&&◌}
use mathlib.Core.List.{List, [], ◌∷◌}
use mathlib.Core.Path.{◌≡◌, refl, ap}
use native.Mathlib.Omega.{arith}
use borrow.Author.Tests.{eq-eqb, ne_eqb, eqb-true, leb-true, le-leb, lt-leb}
use lib.Dec.{leb, eqb}
use lib.ListN.{length, get_or, set}
use Rattle.ec20.proofs.Tests.{both, picked}
use Rattle.ec20.specs.Plant.{leftover_of, leftovers_fit, units_in}
use Rattle.ec20.specs.Timers.{base_of, given_to, units_of, Few}

-- of another size none fits
pub misfit : (r : List ℕ) → (length r ≡ 2 → ⊥) → false ≡ leftovers_fit r
unfolding leftovers_fit
misfit r h = rw (ne_eqb (length r) 2 h) refl

-- of two bytes, each in its range
fit-two : (r : List ℕ) → length r ≡ 2 → (leb (get_or r 0 0) 9 && leb (get_or r 1 0) 99) ≡ leftovers_fit r
unfolding leftovers_fit leftover_of
fit-two r h = rw (eq-eqb (length r) 2 h) refl

-- by the second byte, where the first is in its range
pub fit-second : (r : List ℕ) → length r ≡ 2 → get_or r 0 0 ≤ 9 → leb (get_or r 1 0) 99 ≡ leftovers_fit r
fit-second r h l = rw (le-leb _ _ l) at (fit-two r h)

-- and not at all, where it is not
pub fit-first : (r : List ℕ) → length r ≡ 2 → 9 < get_or r 0 0 → leb (get_or r 0 0) 9 ≡ leftovers_fit r
fit-first r h l = let e = lt-leb _ _ l in rw e (rw e at (fit-two r h))

-- a table that fits has two entries, in their ranges
module _ (r : List ℕ) (h : leftovers_fit r ≡ true) where
  parts : (eqb (length r) 2 ≡ true) × (leb (get_or r 0 0) 9 ≡ true) × (leb (get_or r 1 0) 99 ≡ true)
  unfolding leftovers_fit leftover_of
  parts =
      let a = both (eqb (length r) 2 && leb (get_or r 0 0) 9) (leb (get_or r 1 0) 99) h in
      let b = both (eqb (length r) 2) (leb (get_or r 0 0) 9) a.0 in
      (b.0, b.1, a.1)

  pub two : length r ≡ 2
  two = eqb-true _ _ parts.0

  pub tens-low : get_or r 0 0 ≤ 9
  tens-low = leb-true _ _ parts.1

  pub hundreds-low : get_or r 1 0 ≤ 99
  hundreds-low = leb-true _ _ parts.2

-- both entries written anew
pub rewritten : (r : List ℕ) (a b : ℕ) → length r ≡ 2 → set (set r 0 a) 1 b ≡ a ∷ b ∷ []
rewritten [] a b h = absurd (omega arith)
rewritten (x ∷ []) a b h = absurd (omega arith)
rewritten (x ∷ y ∷ []) a b h = refl
rewritten (x ∷ y ∷ z ∷ l) a b h = absurd (omega arith)

-- of leftovers in their ranges and 10,000 ms at most no timer is given more than 10,000 units
pub few : (r : List ℕ) (e : ℕ) → leftovers_fit r ≡ true → e ≤ 10000 → Few (units_in e r)
unfolding units_of given_to units_in leftover_of
few r e h l i =
    let t = tens-low r h in
    let s = hundreds-low r h in
    picked (λ (n : ℕ). n ≤ 32767) (eqb (base_of i) 100) _ _
    (λ _. omega arith)
    (λ _. picked (λ (n : ℕ). n ≤ 32767) (eqb (base_of i) 10) _ _ (λ _. omega arith) (λ _. omega arith))

-- the units of the two sums
pub shared-units : (r : List ℕ) (e : ℕ) → record { hundreds = (get_or r 1 0 + e) / 100; tens = (get_or r 0 0 + e) / 10; ones = e } ≡ units_in e r
unfolding units_in leftover_of
shared-units r e = let one : e ≡ (0 + e) / 1 = omega arith in ap (λ (n : ℕ). record { hundreds = (get_or r 1 0 + e) / 100; tens = (get_or r 0 0 + e) / 10; ones = n }) one
