-- THE REPORT OF EVERY LIST IS COMPLETE: complete. Its statement is in specs/Agreed.antt. Assumes nothing.
use Prim.Native.Nat.{ℕ, zero, suc, ◌+◌, ◌≤◌, ◌<◌}
use mathlib.Core.Bool.{Bool, true, false}
use mathlib.Core.List.{List, ◌∷◌}
use mathlib.Core.Logic.{inl, inr}
use mathlib.Core.Path.{◌≡◌, refl, sym, ap, subst, subst₂, ◌∙◌}
use native.Mathlib.Decide.{ℕ_discrete, dec_lt}
use native.Mathlib.Omega.{arith}
use lib.ListN.{length, get_or, length-append}
use Rattle.ec20.proofs.Tests.{differ}
use Rattle.ec20.specs.Basics.{pick}
use Rattle.units.proofs.Pairs.{pairs_of, of-64}
use Rattle.units.specs.Clash.{Declared, clash_of}
use Rattle.units.specs.Report.{pair, clashes_with, clashes_from}
use Rattle.agreed.specs.Agreed.{Ahead, Complete}
use Rattle.agreed.proofs.Entries.{Has, has_first, has-later, has_left, has_right, All, all_none, all_more, all_both, Sorted, sorted_none, sorted_more, sorted-both}

module _ (v : Declared) where
  -- ---- every clash is told

  told-first : (t : Bool) (p : List ℕ) (s : List (List ℕ)) → t ≡ true → Has (pick t (p ∷ s) s) p
  told-first true p s e = has_first s p
  told-first false p s e = differ (sym e)

  told-later : (t : Bool) (q p : List ℕ) (s : List (List ℕ)) → Has s p → Has (pick t (q ∷ s) s) p
  told-later true q p s h = has-later s q p h
  told-later false q p s h = h

  with-told : (i j n k : ℕ) → j ≤ k → k < j + n → clash_of (v.at i) (v.at k) ≡ true → Has (clashes_with v i j n) (pair i k)
  unfolding clashes_with
  with-told i j zero k l u e = absurd (omega arith)
  with-told i j (suc n) k l u e =
      elim (ℕ_discrete j k) [
        | yes d ↦ subst (λ (m : ℕ). Has (clashes_with v i j (suc n)) (pair i m)) d
            (told-first (clash_of (v.at i) (v.at j)) (pair i j) (clashes_with v i (suc j) n) (ap (λ (m : ℕ). clash_of (v.at i) (v.at m)) d ∙ e))
        | no d ↦ told-later (clash_of (v.at i) (v.at j)) (pair i j) (pair i k) (clashes_with v i (suc j) n) (with-told i (suc j) n k (omega arith) (omega arith) e)
      ]

  from_told : (m n i j : ℕ) → m ≤ i → i < j → j < m + n → clash_of (v.at i) (v.at j) ≡ true → Has (clashes_from v m n) (pair i j)
  unfolding clashes_from
  from_told m zero i j a l u e = absurd (omega arith)
  from_told m (suc n) i j a l u e =
      elim (ℕ_discrete m i) [
        | yes d ↦ has_left (clashes_with v m (suc m) n) (clashes_from v (suc m) n) (pair i j)
            (subst (λ (k : ℕ). Has (clashes_with v m (suc m) n) (pair k j)) d
            (with-told m (suc m) n j (omega arith) (omega arith) (ap (λ (k : ℕ). clash_of (v.at k) (v.at j)) d ∙ e)))
        | no d ↦ has_right (clashes_with v m (suc m) n) (clashes_from v (suc m) n) (pair i j) (from_told (suc m) n i j (omega arith) l (omega arith) e)
      ]

  -- ---- and nothing else

  -- p is a clash of two of the n places from m on
  abbrev Among : ℕ → ℕ → List ℕ → Type 0
  Among m n p = (i : ℕ) × (j : ℕ) × (m ≤ i) × (i < j) × (j < m + n) × (clash_of (v.at i) (v.at j) ≡ true) × (p ≡ pair i j)

  -- p is a clash of place i with one of the n places from j on
  abbrev Beside : ℕ → ℕ → ℕ → List ℕ → Type 0
  Beside i j n p = (k : ℕ) × (j ≤ k) × (k < j + n) × (clash_of (v.at i) (v.at k) ≡ true) × (p ≡ pair i k)

  only_one : (P : List ℕ → Type 0) (t : Bool) (p : List ℕ) (s : List (List ℕ)) → (t ≡ true → P p) → All P s → All P (pick t (p ∷ s) s)
  only_one P true p s h a = all_more P p s (h refl) a
  only_one P false p s h a = a

  with-only : (i j n : ℕ) → All (Beside i j n) (clashes_with v i j n)
  unfolding clashes_with
  with-only i j zero = all_none (Beside i j 0)
  with-only i j (suc n) =
      only_one (Beside i j (suc n)) (clash_of (v.at i) (v.at j)) (pair i j) (clashes_with v i (suc j) n) (λ e. (j, omega arith, omega arith, e, refl))
      (λ k l. let h = with-only i (suc j) n k l in (h.0, omega (arith, h.1), omega (arith, h.2), h.3, h.4))

  from-only : (m n : ℕ) → All (Among m n) (clashes_from v m n)
  unfolding clashes_from
  from-only m zero = all_none (Among m 0)
  from-only m (suc n) =
      all_both (Among m (suc n)) (clashes_with v m (suc m) n) (clashes_from v (suc m) n)
      (λ k l. let h = with-only m (suc m) n k l in (m, h.0, omega arith, omega (arith, h.1), omega (arith, h.2), h.3, h.4))
      (λ k l. let h = from-only (suc m) n k l in (h.0, h.1, omega (arith, h.2), h.3, omega (arith, h.4), h.5, h.6))

  -- ---- in order

  sorted-one : (t : Bool) (p : List ℕ) (s : List (List ℕ)) → All (Ahead p) s → Sorted s → Sorted (pick t (p ∷ s) s)
  sorted-one true p s a h = sorted_more p s a h
  sorted-one false p s a h = h

  with-sorted : (i j n : ℕ) → Sorted (clashes_with v i j n)
  unfolding clashes_with
  with-sorted i j zero = sorted_none
  with-sorted i j (suc n) =
      sorted-one (clash_of (v.at i) (v.at j)) (pair i j) (clashes_with v i (suc j) n)
      (λ k l. let h = with-only i (suc j) n k l in subst (Ahead (pair i j)) (sym h.4) (inr (refl, omega (arith, h.1))))
      (with-sorted i (suc j) n)

  from_sorted : (m n : ℕ) → Sorted (clashes_from v m n)
  unfolding clashes_from
  from_sorted m zero = sorted_none
  from_sorted m (suc n) =
      sorted-both (clashes_with v m (suc m) n) (clashes_from v (suc m) n)
      (λ k l a b. let h = with-only m (suc m) n k l in let g = from-only (suc m) n a b in subst₂ Ahead (sym h.4) (sym g.6) (inl (omega (arith, g.2))))
      (with-sorted m (suc m) n) (from_sorted (suc m) n)

  -- ---- how many

  one-most : (t : Bool) (p : List ℕ) (s : List (List ℕ)) (n : ℕ) → length s ≤ n → length (pick t (p ∷ s) s) ≤ suc n
  one-most true p s n h = omega arith
  one-most false p s n h = omega arith

  with-most : (i j n : ℕ) → length (clashes_with v i j n) ≤ n
  unfolding clashes_with
  with-most i j zero = omega arith
  with-most i j (suc n) = one-most (clash_of (v.at i) (v.at j)) (pair i j) (clashes_with v i (suc j) n) n (with-most i (suc j) n)

-- the clashes among n places are no more than their pairs
from-most : (v : Declared) (m n : ℕ) → length (clashes_from v m n) ≤ pairs_of n
unfolding clashes_from pairs_of
from-most v m zero = omega arith
from-most v m (suc n) =
    omega (arith, length-append (clashes_with v m (suc m) n) (clashes_from v (suc m) n), with-most v m (suc m) n, from-most v (suc m) n)

-- ---- all of it

-- no pair comes ahead of itself
not-ahead : (x y : List ℕ) → x ≡ y → Ahead x y → ⊥
not-ahead x y e (inl h) = omega (arith, ap (λ (z : List ℕ). get_or z 0 0) e, h)
not-ahead x y e (inr h) = omega (arith, ap (λ (z : List ℕ). get_or z 1 0) e, h.1)

pub complete : (v : Declared) → Complete v
complete v = record {
  told = λ i j c. from_told v 0 v.count i j (omega arith) c.lower (omega (arith, c.below)) c.clash;
  only = λ k l.
      let h = from-only v 0 v.count k l in
      (h.0, h.1, record { lower = h.3; below = omega (arith, h.4); clash = h.5 }, h.6);
  ordered = from_sorted v 0 v.count;
  once = λ k l a b e.
      elim (ℕ_discrete k l) [
        | yes d ↦ d
        | no d ↦ elim (dec_lt k l) [
          | yes z ↦ absurd (not-ahead _ _ e (from_sorted v 0 v.count k l z b))
          | no z ↦ absurd (not-ahead _ _ (sym e) (from_sorted v 0 v.count l k (omega arith) a))
        ]
      ];
  most = λ l. omega (arith, from-most v 0 v.count, of-64 v.count l);
}
