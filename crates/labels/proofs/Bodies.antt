-- The loop body that a record stands in directly: what tells it, the table of it filled from record 0 on, and the label rule by that table.
use Prim.Native.Nat.{ℕ, zero, suc, ◌+◌, ◌-◌, ◌<◌, ◌≤◌}
use mathlib.Core.Bool.{Bool, true, false, not}
use mathlib.Core.List.{List, [], ◌∷◌}
use mathlib.Core.Path.{◌≡◌, refl, sym, ap, ap₂, subst, ◌∙◌}
use native.Mathlib.Decide.{ℕ_discrete}
use native.Mathlib.Numerals.{add-one}
use native.Mathlib.Omega.{arith}
use borrow.Author.Tests.{eq-eqb, ne_eqb}
use lib.Dec.{eqb}
use lib.ListN.{get_or, length, set, replicate, length-set, length-replicate}
use lib.Seq.{get_or-set_same, get_or-set_other}
use Rattle.bound.proofs.First.{first-at}
use Rattle.bound.proofs.LabelRule.{label-rule}
use Rattle.ec20.specs.Control.{Controls, marks, first_label}
use Rattle.ec20.specs.Labels.{rest, opens_after, opens_of, Stands, label_fault}
use Rattle.ec20.specs.declared.Control.{Control}
use Rattle.ec20.specs.declared.Control.TheVariants.{Plain, Opens, Closes, Jumps, Marks, Ends}
use Rattle.ec20.specs.Found.{Found}
use Rattle.ec20.specs.Found.{At, Nowhere}
use Rattle.labels.specs.Homes.{home_in, Homes, home_around, home_after}
use Rattle.labels.specs.Sound.{Sound}

-- loops before record n, each in those that are open before its FOR
abbrev Nested : Controls → ℕ → List ℕ → Type 0
Nested code n [] = Unit {0}
Nested code n (h ∷ t) = (h < n) × (t ≡ opens_of code h) × Nested code h t

nested-more : (code : Controls) (n m : ℕ) (l : List ℕ) → n ≤ m → Nested code n l → Nested code m l
nested-more code n m [] p b = tt
nested-more code n m (h ∷ t) p b = let q : h < n = b.0 in (omega arith, b.1, b.2)

nested-rest : (code : Controls) (n : ℕ) (l : List ℕ) → Nested code n l → Nested code n (rest l)
unfolding rest
nested-rest code n [] b = tt
nested-rest code n (h ∷ t) b = let q : h < n = b.0 in nested-more code h n t (omega arith) b.2

nested-after : (code : Controls) (i : Control) (k : ℕ) → Nested code k (opens_of code k) → Nested code (suc k) (opens_after i k (opens_of code k))
unfolding opens_after
nested-after code Plain k b = nested-more code k (suc k) (opens_of code k) (omega arith) b
nested-after code (Opens n) k b = (omega arith, refl, b)
nested-after code Closes k b = nested-more code k (suc k) (rest (opens_of code k)) (omega arith) (nested-rest code k (opens_of code k) b)
nested-after code (Jumps l) k b = nested-more code k (suc k) (opens_of code k) (omega arith) b
nested-after code (Marks l) k b = nested-more code k (suc k) (opens_of code k) (omega arith) b
nested-after code Ends k b = nested-more code k (suc k) (opens_of code k) (omega arith) b

nested : (code : Controls) (k : ℕ) → Nested code k (opens_of code k)
unfolding opens_of
nested code zero = tt
nested code (suc k) = nested-after code (code k) k (nested code k)

-- a body is told by its FOR
same_home : (code : Controls) (m n : ℕ) (o p : List ℕ) → Nested code m o → Nested code n p → home_in o ≡ home_in p → o ≡ p
unfolding home_in
same_home code m n [] [] a b e = refl
same_home code m n [] (g ∷ p) a b e = absurd (omega arith)
same_home code m n (h ∷ o) [] a b e = absurd (omega arith)
same_home code m n (h ∷ o) (g ∷ p) a b e =
    let q : h ≡ g = omega arith in
    ap₂ ◌∷◌ q (a.1 ∙ ap (opens_of code) q ∙ sym b.1)

-- its FOR stands before what stands in it
low : (code : Controls) (k : ℕ) (o : List ℕ) → Nested code k o → home_in o ≤ k
unfolding home_in
low code k [] b = omega arith
low code k (h ∷ t) b = let q : h < k = b.0 in omega arith

-- the body around it is the one that its FOR stands in
around : (code : Controls) (k : ℕ) (t o : List ℕ) → Nested code k o → ((j : ℕ) → j < k → get_or t j 0 ≡ home_in (opens_of code j))
    → home_around (home_in o) t ≡ home_in (rest o)
unfolding home_in home_around rest
around code k t [] b f = refl
around code k t (h ∷ o) b f =
    let e : h + 1 - 1 ≡ h = omega arith in
    rw (ne_eqb (h + 1) 0 (λ z. omega arith), e) (f h b.0 ∙ ap home_in (sym b.1))

after : (code : Controls) (i : Control) (k h : ℕ) (t : List ℕ) → h ≡ home_in (opens_of code k)
    → ((j : ℕ) → j < k → get_or t j 0 ≡ home_in (opens_of code j)) → home_after i k h t ≡ home_in (opens_after i k (opens_of code k))
unfolding home_after home_in opens_after
after code Plain k h t e f = e
after code (Opens n) k h t e f = refl
after code Closes k h t e f = ap (λ (x : ℕ). home_around x t) e ∙ around code k t (opens_of code k) (nested code k) f
after code (Jumps l) k h t e f = e
after code (Marks l) k h t e f = e
after code Ends k h t e f = e

-- the bodies of the records before record k are told, and home is that of record k
pub record Filled (code : Controls) (k home : ℕ) (t : List ℕ) : Type 0 where
  pub size : length t ≡ 2000
  pub here : home ≡ home_in (opens_of code k)
  pub told : (j : ℕ) → j < k → get_or t j 0 ≡ home_in (opens_of code j)

pub filled_none : (code : Controls) → Filled code 0 0 (replicate 2000 0)
unfolding home_in opens_of
filled_none code = record { size = length-replicate {A = ℕ} 2000 0; here = refl; told = λ j h. absurd (omega arith) }

module _ (code : Controls) (k home : ℕ) (t : List ℕ) (f : Filled code k home t) where
  pub home-low : home ≤ k
  home-low = omega (arith, f.here, low code k (opens_of code k) (nested code k))

  more : k < 2000 → (j : ℕ) → j < k + 1 → get_or (set t k home) j 0 ≡ home_in (opens_of code j)
  more b j h =
      elim (ℕ_discrete j k) [
        | yes q ↦ subst (λ (i : ℕ). get_or (set t k home) i 0 ≡ home_in (opens_of code i)) (sym q) (get_or-set_same t k home 0 (omega (arith, f.size)) ∙ f.here)
        | no q ↦ get_or-set_other t k j home 0 q ∙ f.told j (omega arith)
      ]

  pub filled_more : k < 2000 → {x : Control} {r : ℕ} → x ≡ code k → r ≡ home_after x k home (set t k home) → Filled code (k + 1) r (set t k home)
  unfolding opens_of
  filled_more b q e =
      record {
        size = length-set t k home ∙ f.size;
        here = e ∙ rw (add-one, q) (after code (code k) k home (set t k home) f.here (λ j h. more b j (omega arith)));
        told = more b;
      }

pub filled-all : (code : Controls) (count k home : ℕ) (t : List ℕ) → count ≤ k → Filled code k home t → Homes code count t
unfolding Homes
filled-all code count k home t h f j b = f.told j (omega arith)

-- a label's place is one of the records
pub place-low : (code : Controls) (count l t : ℕ) {x : Found} → x ≡ first_label code count l → x ≡ At t → t < count
place-low code count l t e g =
    let h : t < 0 + count = (first-at (λ j. marks l (code j)) count 0 t (sym e ∙ g)).high in
    omega arith

is_true : (b : Bool) → (b ≡ false → ⊥) → true ≡ b
is_true true h = refl
is_true false h = absurd (h refl)

-- THE LABEL RULE BY THE TABLE, of a CJ at record k to the label l
module _ (code : Controls) (count k l : ℕ) (s : Sound code count) (b : k < count) (q : code k ≡ Jumps l) where
  rule : (label_fault code count k (Jumps l) ≡ false → (t : ℕ) × Stands code count k l t)
      × ((t : ℕ) → Stands code count k l t → label_fault code count k (Jumps l) ≡ false)
  unfolding Sound
  rule = label-rule code count s.0 s.1 s.2 k l b q

  -- what stands where it must is the label's place
  only : {x : Found} (t : ℕ) → x ≡ first_label code count l → x ≡ At t → (label_fault code count k (Jumps l) ≡ false) → Stands code count k l t
  only t e g f =
      let p = rule.0 f in
      let d : At p.0 ≡ At t = sym p.1.first ∙ sym e ∙ g in
      let c : p.0 ≡ t = cc in
      subst (Stands code count k l) c p.1

  -- it has no place
  pub no_place : {x : Found} → x ≡ first_label code count l → x ≡ Nowhere → true ≡ label_fault code count k (Jumps l)
  no_place e g =
      is_true _ (λ f.
      let p = rule.0 f in
      let d : At p.0 ≡ Nowhere = sym p.1.first ∙ sym e ∙ g in
      let z : ◌≡◌ {A = ℕ} 0 1 = cc in
      omega arith)

  -- it stands no later
  pub no-later : {x : Found} (t : ℕ) → x ≡ first_label code count l → x ≡ At t → t ≤ k → true ≡ label_fault code count k (Jumps l)
  no-later t e g h = is_true _ (λ f. let p : k < t = (only t e g f).later in omega arith)

  -- it stands later, and the table tells both bodies
  pub later : {x : Found} (t : ℕ) → x ≡ first_label code count l → x ≡ At t → k < t → (homes : List ℕ) → Homes code count homes
      → not (eqb (get_or homes t 0) (get_or homes k 0)) ≡ label_fault code count k (Jumps l)
  unfolding Homes
  later t e g h homes w =
      let u : get_or homes t 0 ≡ home_in (opens_of code t) = w t (place-low code count l t e g) in
      let v : get_or homes k 0 ≡ home_in (opens_of code k) = w k b in
      elim (ℕ_discrete (get_or homes t 0) (get_or homes k 0)) [
        | yes c ↦
            let o : opens_of code t ≡ opens_of code k = same_home code t k _ _ (nested code t) (nested code k) (sym u ∙ c ∙ v) in
            ap not (eq-eqb _ _ c) ∙ sym (rule.1 t record { first = sym e ∙ g; later = h; body = o })
        | no c ↦
            ap not (ne_eqb _ _ c) ∙ is_true _ (λ f. c (u ∙ ap home_in (only t e g f).body ∙ sym v))
      ]
