-- THE ORDER OF THE DECLARATIONS PLAYS NO PART: order. Its statement is in specs/Agreed.antt. Assumes nothing.
use Prim.Native.Nat.{ℕ, ◌≤◌, ◌<◌, min, max}
use mathlib.Core.Bool.{true}
use mathlib.Core.List.{List}
use mathlib.Core.Logic.{inl, inr}
use mathlib.Core.Path.{◌≡◌, refl, sym, ap, ap₂, subst, subst₂, ◌∙◌}
use native.Mathlib.Decide.{ℕ_discrete, dec_lt}
use native.Mathlib.Nat.{le_antisymm}
use native.Mathlib.Omega.{arith}
use lib.ListN.{length, get_or}
use borrow.Author.Tests.{eq-eqb, ne_eqb}
use Rattle.ec20.specs.Basics.{then}
use Rattle.ec20.specs.Judged.{Judged}
use Rattle.units.specs.Clash.{Declared, clash_of}
use Rattle.units.specs.Report.{pair, clashes_of, list_fault, room_fault, judge_clashes}
use Rattle.agreed.specs.Agreed.{entry, Clash, Told, Wrong, Line10, over_64, block, exchanged, swapped, ToldOf, Swapped}
use Rattle.agreed.proofs.Answers.{list-decided}
use Rattle.agreed.proofs.Complete.{complete}
use Rattle.agreed.proofs.Even.{clash-comm}
use Rattle.agreed.proofs.Numbers.{at_most}

-- ---- places

-- i is p, q or neither
data Which (p q i : ℕ) : Type 0 where
  is_p : i ≡ p → exchanged p q i ≡ q → Which p q i
  is_q : i ≡ q → exchanged p q i ≡ p → Which p q i
  is_none : (i ≡ p → ⊥) → (i ≡ q → ⊥) → exchanged p q i ≡ i → Which p q i

which : (p q i : ℕ) → Which p q i
unfolding exchanged
which p q i =
    elim (ℕ_discrete i p) [
      | yes e ↦ is_p e (rw (eq-eqb i p e) refl)
      | no e ↦ elim (ℕ_discrete i q) [
        | yes f ↦ is_q f (rw (ne_eqb i p e, eq-eqb i q f) refl)
        | no f ↦ is_none e f (rw (ne_eqb i p e, ne_eqb i q f) refl)
      ]
    ]

below : (p q n i : ℕ) → p < n → q < n → i < n → exchanged p q i < n
below p q n i x y l =
    elim (which p q i) [ is_p a e ↦ omega (arith, e, y) | is_q a e ↦ omega (arith, e, x) | is_none a b e ↦ omega (arith, e, l) ]

-- twice is not at all
twice : (p q i : ℕ) → exchanged p q (exchanged p q i) ≡ i
twice p q i =
    elim (which p q i) [
      | is_p a e ↦ elim (which p q (exchanged p q i)) [ is_p b f ↦ omega (arith, a, e, b, f) | is_q b f ↦ omega (arith, a, e, b, f) | is_none b c f ↦ absurd (c e) ]
      | is_q a e ↦ elim (which p q (exchanged p q i)) [ is_p b f ↦ omega (arith, a, e, b, f) | is_q b f ↦ omega (arith, a, e, b, f) | is_none b c f ↦ absurd (b e) ]
      | is_none a b e ↦ ap (exchanged p q) e ∙ e
    ]

one_place : (p q i j : ℕ) → exchanged p q i ≡ exchanged p q j → i ≡ j
one_place p q i j e = sym (twice p q i) ∙ ap (exchanged p q) e ∙ twice p q j

-- ---- 10

wrong-there : (v : Declared) (p q : ℕ) → p < v.count → q < v.count → Line10 (swapped v p q) → Line10 v
wrong-there v p q x y (over_64 l) = over_64 l
wrong-there v p q x y (block i l w) = block (exchanged p q i) (below p q v.count i x y l) w

wrong-here : (v : Declared) (p q : ℕ) → p < v.count → q < v.count → Line10 v → Line10 (swapped v p q)
wrong-here v p q x y (over_64 l) = over_64 l
wrong-here v p q x y (block i l w) =
    block (exchanged p q i) (below p q v.count i x y l) (subst (λ (k : ℕ). Wrong (v.at k)) (sym (twice p q i)) w)

same-fault : (v : Declared) (p q : ℕ) → p < v.count → q < v.count → list_fault (swapped v p q) ≡ list_fault v
same-fault v p q x y =
    elim (list-decided v) [
      | inl a ↦ elim (list-decided (swapped v p q)) [ inl b ↦ b.1 ∙ sym a.1 | inr b ↦ absurd (b.0 (wrong-here v p q x y a.0)) ]
      | inr a ↦ elim (list-decided (swapped v p q)) [ inl b ↦ absurd (a.0 (wrong-there v p q x y b.0)) | inr b ↦ b.1 ∙ sym a.1 ]
    ]

refusal : (v : Declared) (b : List (List ℕ)) (p q : ℕ) → p < v.count → q < v.count → judge_clashes (swapped v p q) b ≡ judge_clashes v b
unfolding judge_clashes
refusal v b p q x y = ap (λ (j : Judged). then j (room_fault b)) (same-fault v p q x y)

-- ---- which of them clash

pair_parts : (i j k l : ℕ) → pair i j ≡ pair k l → (i ≡ k) × (j ≡ l)
pair_parts i j k l e = (ap (λ (z : List ℕ). get_or z 0 0) e, ap (λ (z : List ℕ). get_or z 1 0) e)

-- the lower and the higher of two places clash exactly if the two do
sorted-clash : (v : Declared) (i j : ℕ) → clash_of (v.at (min i j)) (v.at (max i j)) ≡ clash_of (v.at i) (v.at j)
sorted-clash v i j =
    elim (dec_lt j i) [
      | yes l ↦
          let m : min i j ≡ j = omega arith in
          let n : max i j ≡ i = omega arith in
          ap₂ (λ (a b : ℕ). clash_of (v.at a) (v.at b)) m n ∙ clash-comm (v.at j) (v.at i)
      | no l ↦
          let m : min i j ≡ i = omega arith in
          let n : max i j ≡ j = omega arith in
          ap₂ (λ (a b : ℕ). clash_of (v.at a) (v.at b)) m n
    ]

told-clash : (v : Declared) (i j : ℕ) → Told v i j → Clash v i j
told-clash v i j h =
    let g = (complete v).only h.0 h.1 in
    let e = pair_parts g.0 g.1 i j (sym g.3 ∙ h.2) in
    subst₂ (Clash v) e.0 e.1 g.2

clash-told : (v : Declared) (i j : ℕ) → i < v.count → j < v.count → (i ≡ j → ⊥) → clash_of (v.at i) (v.at j) ≡ true → ToldOf v i j
clash-told v i j a b d e =
    (complete v).told (min i j) (max i j) (record { lower = omega (arith, d); below = omega arith; clash = sorted-clash v i j ∙ e })

is-clash : (v : Declared) (i j : ℕ) → ToldOf v i j → clash_of (v.at i) (v.at j) ≡ true
is-clash v i j h = sym (sorted-clash v i j) ∙ (told-clash v (min i j) (max i j) h).clash

module _ (v : Declared) (p q : ℕ) (x : p < v.count) (y : q < v.count) where
  clash-there : (i j : ℕ) → i < v.count → j < v.count → (i ≡ j → ⊥) → ToldOf (swapped v p q) i j → ToldOf v (exchanged p q i) (exchanged p q j)
  clash-there i j a b d h =
      clash-told v (exchanged p q i) (exchanged p q j) (below p q v.count i x y a) (below p q v.count j x y b) (λ e. d (one_place p q i j e))
      (is-clash (swapped v p q) i j h)

  clash-here : (i j : ℕ) → i < v.count → j < v.count → (i ≡ j → ⊥) → ToldOf v (exchanged p q i) (exchanged p q j) → ToldOf (swapped v p q) i j
  clash-here i j a b d h = clash-told (swapped v p q) i j a b d (is-clash v (exchanged p q i) (exchanged p q j) h)

-- ---- how many

-- the clash told in entry k of one list is the one told in entry l of the other, whose places are those of the first by f
abbrev Partner : (s t : List (List ℕ)) → (ℕ → ℕ) → ℕ → ℕ → Type 0
Partner s t f k l = (i : ℕ) × (j : ℕ) × (i < j) × (entry s k ≡ pair i j) × (entry t l ≡ pair (min (f i) (f j)) (max (f i) (f j)))

both_ways : (f : ℕ → ℕ) → ((i j : ℕ) → f i ≡ f j → i ≡ j) → (i j k l : ℕ) → i < j → k < l → min (f i) (f j) ≡ min (f k) (f l) → max (f i) (f j) ≡ max (f k) (f l) → (i ≡ k) × (j ≡ l)
both_ways f one i j k l a b d e =
    elim (ℕ_discrete (f i) (f k)) [
      | yes g ↦ (one i k g, one j l (omega (arith, d, e, g)))
      | no g ↦
          let u : i ≡ l = one i l (omega (arith, d, e, g)) in
          let w : j ≡ k = one j k (omega (arith, d, e, g)) in
          absurd (omega arith)
    ]

no_more : (v w : Declared) (f : ℕ → ℕ) → ((i j : ℕ) → f i ≡ f j → i ≡ j) → ((i j : ℕ) → Clash v i j → ToldOf w (f i) (f j)) → length (clashes_of v) ≤ length (clashes_of w)
no_more v w f one h =
    at_most (length (clashes_of v)) (length (clashes_of w)) (Partner (clashes_of v) (clashes_of w) f)
    (λ k l.
    let g = (complete v).only k l in
    let c : Clash v g.0 g.1 = g.2 in
    let t = h g.0 g.1 c in
    (t.0, t.1, (g.0, g.1, c.lower, g.3, t.2)))
    (λ k l z a b r s.
    let e = pair_parts (min (f r.0) (f r.1)) (max (f r.0) (f r.1)) (min (f s.0) (f s.1)) (max (f s.0) (f s.1)) (sym r.4 ∙ s.4) in
    let d = both_ways f one r.0 r.1 s.0 s.1 r.2 s.2 e.0 e.1 in
    (complete v).once k l a b (r.3 ∙ ap₂ pair d.0 d.1 ∙ sym s.3))

lower-told : (v : Declared) (i j : ℕ) → i < j → Told v i j → ToldOf v i j
lower-told v i j l h =
    let m : i ≡ min i j = omega arith in
    let n : j ≡ max i j = omega arith in
    subst₂ (Told v) m n h

same_count : (v : Declared) (p q : ℕ) → p < v.count → q < v.count → length (clashes_of (swapped v p q)) ≡ length (clashes_of v)
same_count v p q x y =
    le_antisymm
    (no_more (swapped v p q) v (exchanged p q) (one_place p q) (λ i j c.
    let l : i < j = c.lower in
    clash-there v p q x y i j (omega (arith, l, c.below)) c.below (λ e. omega arith) (lower-told (swapped v p q) i j l ((complete (swapped v p q)).told i j c))))
    (no_more v (swapped v p q) (exchanged p q) (one_place p q) (λ i j c.
    let l : i < j = c.lower in
    let u : j < v.count = c.below in
    clash-here v p q x y (exchanged p q i) (exchanged p q j) (below p q v.count i x y (omega arith)) (below p q v.count j x y u) (λ e. omega (arith, l, one_place p q i j e))
    (subst₂ (ToldOf v) (sym (twice p q i)) (sym (twice p q j)) (lower-told v i j l ((complete v).told i j c)))))

pub order : (v : Declared) (b : List (List ℕ)) (p q : ℕ) → p < v.count → q < v.count → Swapped v b p q
order v b p q x y = record {
  refusal = refusal v b p q x y;
  clash = λ i j k l d. (clash-there v p q x y i j k l d, clash-here v p q x y i j k l d);
  count = same_count v p q x y;
}
