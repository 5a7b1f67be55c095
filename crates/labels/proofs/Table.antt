-- The table of the labels' places, filled from the last record back; and the judgement that begins at the first record that may be refused.
use Prim.Native.Nat.{ℕ, zero, suc, ◌+◌, ◌-◌, ◌<◌, ◌≤◌}
use mathlib.Core.Bool.{false}
use mathlib.Core.List.{List}
use mathlib.Core.Path.{◌≡◌, refl, sym, subst, ap, ◌∙◌}
use native.Mathlib.Decide.{ℕ_discrete}
use native.Mathlib.Nat.{sub-zero}
use native.Mathlib.Omega.{arith}
use borrow.Author.Tests.{eq-eqb, ne_eqb}
use lib.Dec.{eqb}
use lib.ListN.{get_or, length, set, replicate, length-set, length-replicate}
use lib.Seq.{get_or-set_same, get_or-set_other, ext_get_or}
use Rattle.ec20.specs.Basics.{first_at}
use Rattle.ec20.specs.Control.{Controls, marks}
use Rattle.ec20.specs.Found.{Found}
use Rattle.ec20.specs.Found.{At, Nowhere}
use Rattle.labels.proofs.Laws.{passes, fails, none}
use Rattle.labels.specs.Places.{one_more, Places}

-- s is the label of the table that a record sets; it sets none of them where s is 128 or more
abbrev pub Slot : Controls → ℕ → ℕ → Type 0
Slot code k s = (l : ℕ) → l < 128 → marks l (code k) ≡ eqb s l

-- a place told by the table
pub told_at : (x : Found) (t : ℕ) → t ≡ one_more x → (t ≡ 0 → ⊥) → At (t - 1) ≡ x
unfolding one_more
told_at (At k) t e h = ap At (omega arith)
told_at Nowhere t e h = absurd (h e)

pub told_none : (x : Found) (t : ℕ) → t ≡ one_more x → t ≡ 0 → Nowhere ≡ x
unfolding one_more
told_none (At k) t e h = absurd (omega arith)
told_none Nowhere t e h = refl

-- the first LBL of each label among the records from k on
pub record Filled (code : Controls) (count k : ℕ) (t : List ℕ) : Type 0 where
  pub size : length t ≡ 128
  pub below : k ≤ count
  pub told : (l : ℕ) → l < 128 → get_or t l 0 ≡ one_more (first_at (λ j. marks l (code j)) k (count - k))

zeros : (n j : ℕ) → get_or {A = ℕ} (replicate n 0) j 0 ≡ 0
zeros zero j = refl
zeros (suc n) zero = refl
zeros (suc n) (suc j) = zeros n j

pub filled_none : (code : Controls) (count : ℕ) → Filled code count count (replicate 128 0)
unfolding one_more
filled_none code count =
    record {
      size = length-replicate {A = ℕ} 128 0;
      below = omega arith;
      told = λ l h. zeros 128 l ∙ ap one_more (none (λ j. marks l (code j)) count count (omega arith));
    }

module _ (code : Controls) (count k j s : ℕ) (t : List ℕ) (f : Filled code count k t) (before : j + 1 ≡ k) (slot : Slot code j s) where
  within : j < count
  within = omega (arith, f.below)

  -- a label that record j sets
  set_there : (l : ℕ) → l < 128 → s ≡ l → k ≡ one_more (first_at (λ i. marks l (code i)) j (count - j))
  unfolding one_more
  set_there l h e =
      sym before ∙ ap one_more (passes (λ i. marks l (code i)) j count {b = marks l (code j)} within refl (slot l h ∙ eq-eqb _ _ e))

  -- a label that it does not set
  set-later : (l : ℕ) → l < 128 → (s ≡ l → ⊥) → get_or t l 0 ≡ one_more (first_at (λ i. marks l (code i)) j (count - j))
  set-later l h e =
      f.told l h
      ∙ (subst (λ (i : ℕ). one_more (first_at (λ i. marks l (code i)) k (count - k)) ≡ one_more (first_at (λ i. marks l (code i)) i (count - i))) (sym before) refl
      ∙ sym (ap one_more (fails (λ i. marks l (code i)) j count {b = marks l (code j)} within refl (slot l h ∙ ne_eqb _ _ e))))

  more : s < 128 → (l : ℕ) → l < 128 → get_or (set t s k) l 0 ≡ one_more (first_at (λ i. marks l (code i)) j (count - j))
  more b l h =
      elim (ℕ_discrete s l) [
        | yes e ↦ subst (λ (i : ℕ). get_or (set t s k) i 0 ≡ k) e (get_or-set_same t s k 0 (omega (arith, f.size))) ∙ set_there l h e
        | no e ↦ get_or-set_other t s l k 0 (λ q. e (sym q)) ∙ set-later l h e
      ]

  pub filled_more : s < 128 → Filled code count j (set t s k)
  filled_more b = record { size = length-set t s k ∙ f.size; below = omega (arith, f.below); told = more b }

  -- a record that sets none of the labels
  pub filled-same : 128 ≤ s → Filled code count j t
  filled-same b = record { size = f.size; below = omega (arith, f.below); told = λ l h. set-later l h (λ e. omega arith) }

pub filled-all : (code : Controls) (count k : ℕ) (t : List ℕ) → Filled code count k t → k ≡ 0 → Places code count t
unfolding Places
filled-all code count k t f e l h =
    f.told l h ∙ subst (λ (i : ℕ). one_more (first_at (λ j. marks l (code j)) i (count - i)) ≡ one_more (first_at (λ j. marks l (code j)) 0 count)) (sym e) (rw sub-zero refl)

-- the places fix the table: two of 128 entries that tell them are equal
pub one_table : (code : Controls) (count : ℕ) (s t : List ℕ) → length s ≡ 128 → length t ≡ 128 → Places code count s → Places code count t → s ≡ t
unfolding Places
one_table code count s t a b p q = ext_get_or 0 s t (a ∙ sym b) (λ i h. p i (omega (arith, a)) ∙ sym (q i (omega (arith, a))))

-- 128 is no label of the table
pub none-low : (l : ℕ) → l < 128 → false ≡ eqb 128 l
none-low l b = sym (ne_eqb 128 l (λ z. omega arith))
