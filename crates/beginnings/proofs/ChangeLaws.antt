-- Two files side by side, from byte i on. Assumes nothing.
use Rattle.std.proofs.Common.{◌≡◌, ℕ, zero, suc, ◌+◌, ◌<◌, ◌≤◌, Bool, true, false, not, eqb, List, [], ◌∷◌, length, drop, sym, refl, ap, ◌∙◌, ap₂, arith, drop_of_length-le, drop-cons, drop-drop, eq-eqb, ne_eqb, eqb-true}
use native.Mathlib.Decide.{dec_lt}
use borrow.Author.Tests.{eqb-false}
use Rattle.ec20.proofs.Tests.{differ}
use Rattle.beginnings.specs.Changes.{changes_in, Other, SameAt}

-- the test that two bytes differ
pub unlike : (t : Bool) (x y : ℕ) → eqb x y ≡ t → not t ≡ true → x ≡ y → ⊥
unlike true x y e h = differ (sym h)
unlike false x y e h = eqb-false x y e

pub alike : (t : Bool) (x y : ℕ) → eqb x y ≡ t → not t ≡ false → x ≡ y
alike true x y e h = eqb-true x y e
alike false x y e h = differ h

none_left : (n : ℕ) (f : List ℕ) → changes_in n f [] ≡ 0
unfolding changes_in
none_left n [] = refl
none_left n (a ∷ f) = refl

-- bytes that are passed over are dropped
passed : (n : ℕ) (f g : List ℕ) → changes_in n f g ≡ changes_in 0 (drop n f) (drop n g)
unfolding changes_in
passed zero f g = refl
passed (suc n) [] g = refl
passed (suc n) (a ∷ f) [] = sym (none_left 0 (drop n f))
passed (suc n) (a ∷ f) (b ∷ g) = passed n f g

module _ (f g : List ℕ) where
  abbrev pub from : ℕ → ℕ
  from i = changes_in 0 (drop i f) (drop i g)

  -- a byte that is the same, or that the other file has not
  same_at : (i : ℕ) → i < length f → SameAt f g i → from i ≡ from (suc i)
  unfolding changes_in
  same_at i h e =
      elim (dec_lt i (length g)) [
        | yes k ↦ rw (drop-cons f i 0 h, drop-cons g i 0 k, eq-eqb _ _ (e h k)) refl
        | no k ↦ rw (drop_of_length-le g {i = i} (omega arith), drop_of_length-le g {i = suc i} (omega arith)) (none_left 0 (drop i f) ∙ sym (none_left 0 (drop (suc i) f)))
      ]

  -- a byte that differs
  other_at : (i : ℕ) → Other f g i → from i ≡ suc (from (i + 4))
  unfolding changes_in
  other_at i o =
      rw (drop-cons f i 0 o.one, drop-cons g i 0 o.two, ne_eqb _ _ o.apart)
      (ap suc (passed 3 (drop (suc i) f) (drop (suc i) g)
      ∙ ap₂ (changes_in 0) (drop-drop 3 (suc i) f ∙ ap (λ (m : ℕ). drop m f) {x = suc i + 3} {y = i + 4} (omega arith)) (drop-drop 3 (suc i) g ∙ ap (λ (m : ℕ). drop m g) {x = suc i + 3} {y = i + 4} (omega arith))))

  -- past the file nothing is left
  none_from : (i : ℕ) → length f ≤ i → from i ≡ 0
  unfolding changes_in
  none_from i h = rw (drop_of_length-le f {i = i} h) refl

  -- what was counted, and what is to come, make the whole: a turn at a byte that is the same, one at a byte that differs, and the end
  abbrev pub Counted : ℕ → ℕ → Type 0
  Counted n i = n + from i ≡ changes_in 0 f g

  pub counted_none : Counted 0 0
  counted_none = omega arith

  pub counted_same : (n i : ℕ) → Counted n i → i < length f → SameAt f g i → Counted n (i + 1)
  counted_same n i e h s = let q : from i ≡ from (i + 1) = same_at i h s ∙ ap from {x = suc i} {y = i + 1} (omega arith) in omega (arith, e, q)

  pub counted-other : (n i : ℕ) → Counted n i → Other f g i → Counted (n + 1) (i + 4)
  counted-other n i e o = let q : from i ≡ suc (from (i + 4)) = other_at i o in omega (arith, e, q)

  pub counted-all : (n i : ℕ) → Counted n i → length f ≤ i → n ≡ changes_in 0 f g
  counted-all n i e h = let q : from i ≡ 0 = none_from i h in omega (arith, e, q)
