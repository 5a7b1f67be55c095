-- Lists of pairs by their entries: what is in one, what all have, in which order they stand. Assumes nothing.
use Prim.Native.Nat.{ℕ, zero, suc, ◌+◌, ◌-◌, ◌≤◌, ◌<◌}
use mathlib.Core.List.{List, [], ◌∷◌, ◌++◌}
use mathlib.Core.Path.{◌≡◌, refl, sym, ap, subst, ◌∙◌}
use native.Mathlib.Decide.{dec_lt}
use native.Mathlib.Nat.{not-suc-le-zero, le_of_suc-le-suc}
use native.Mathlib.Omega.{arith}
use lib.ListN.{length, length-append, get_or-append}
use lib.Seq.{get_or-append-add}
use Rattle.agreed.specs.Agreed.{entry, Ahead}

abbrev Pairs : Type 0
Pairs = List (List ℕ)

-- ---- an entry of two lists, one behind the other

left_at : (x y : Pairs) (k : ℕ) → k < length x → entry (x ++ y) k ≡ entry x k
left_at x y k l = get_or-append x y [] k l

right-at : (x y : Pairs) (k : ℕ) → entry (x ++ y) (length x + k) ≡ entry y k
right-at x y k = get_or-append-add x y k []

right-from : (x y : Pairs) (k : ℕ) → length x ≤ k → entry (x ++ y) k ≡ entry y (k - length x)
right-from x y k l = ap (entry (x ++ y)) {x = k} {y = length x + (k - length x)} (omega arith) ∙ right-at x y (k - length x)

-- ---- p is one of the entries

abbrev pub Has : List (List ℕ) → List ℕ → Type 0
Has s p = (k : ℕ) × (k < length s) × (entry s k ≡ p)

pub has_first : (s : List (List ℕ)) (p : List ℕ) → Has (p ∷ s) p
has_first s p = (0, omega arith, refl)

pub has-later : (s : List (List ℕ)) (q p : List ℕ) → Has s p → Has (q ∷ s) p
has-later s q p h = (suc h.0, omega (arith, h.1), h.2)

pub has_left : (x y : List (List ℕ)) (p : List ℕ) → Has x p → Has (x ++ y) p
has_left x y p h = (h.0, omega (arith, h.1, length-append x y), left_at x y h.0 h.1 ∙ h.2)

pub has_right : (x y : List (List ℕ)) (p : List ℕ) → Has y p → Has (x ++ y) p
has_right x y p h = (length x + h.0, omega (arith, h.1, length-append x y), right-at x y h.0 ∙ h.2)

-- ---- every entry is such a one

abbrev pub All : (List ℕ → Type 0) → List (List ℕ) → Type 0
All P s = (k : ℕ) → k < length s → P (entry s k)

pub all_none : (P : List ℕ → Type 0) → All P []
all_none P k l = absurd (not-suc-le-zero l)

pub all_more : (P : List ℕ → Type 0) (p : List ℕ) (s : List (List ℕ)) → P p → All P s → All P (p ∷ s)
all_more P p s h g zero l = h
all_more P p s h g (suc k) l = g k (le_of_suc-le-suc l)

pub all_both : (P : List ℕ → Type 0) (x y : List (List ℕ)) → All P x → All P y → All P (x ++ y)
all_both P x y h g k l =
    elim (dec_lt k (length x)) [
      | yes z ↦ subst P (sym (left_at x y k z)) (h k z)
      | no z ↦ subst P (sym (right-from x y k (omega arith))) (g (k - length x) (omega (arith, l, length-append x y)))
    ]

-- ---- in order

abbrev pub Sorted : List (List ℕ) → Type 0
Sorted s = (k l : ℕ) → k < l → l < length s → Ahead (entry s k) (entry s l)

pub sorted_none : Sorted []
sorted_none k l h g = absurd (not-suc-le-zero g)

-- one that comes ahead of all
pub sorted_more : (p : List ℕ) (s : List (List ℕ)) → All (Ahead p) s → Sorted s → Sorted (p ∷ s)
sorted_more p s a h zero zero l g = absurd (not-suc-le-zero l)
sorted_more p s a h zero (suc j) l g = a j (le_of_suc-le-suc g)
sorted_more p s a h (suc k) zero l g = absurd (not-suc-le-zero l)
sorted_more p s a h (suc k) (suc j) l g = h k j (le_of_suc-le-suc l) (le_of_suc-le-suc g)

-- a list whose entries all come ahead of the other's
pub sorted-both : (x y : List (List ℕ)) → All (λ (p : List ℕ). All (Ahead p) y) x → Sorted x → Sorted y → Sorted (x ++ y)
sorted-both [] y a h g = g
sorted-both (p ∷ x) y a h g =
    sorted_more p (x ++ y) (all_both (Ahead p) x y (λ k l. h 0 (suc k) (omega arith) (omega arith)) (a 0 (omega arith)))
    (sorted-both x y (λ k l. a (suc k) (omega arith)) (λ k j l u. h (suc k) (suc j) (omega arith) (omega arith)) g)
