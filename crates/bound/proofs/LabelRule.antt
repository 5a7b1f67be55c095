-- The label rule as a search and in the scope's words: of a program whose structure is right, they say the same.
use Prim.Native.Nat.{ℕ, zero, suc, ◌+◌, ◌-◌, ◌<◌, ◌≤◌}
use mathlib.Core.Bool.{true, false, not}
use mathlib.Core.Path.{◌≡◌, refl, sym, ap, ap₂, subst, ◌∙◌}
use native.Mathlib.Omega.{arith}
use native.Mathlib.Decide.{ℕ_discrete, dec_le, dec_lt}
use lib.ListN.{length}
use borrow.Author.Tests.{eq-eqb}
use Rattle.ec20.specs.declared.Control.{Control}
use Rattle.ec20.specs.declared.Control.TheVariants.{Jumps}
use Rattle.ec20.specs.Found.{At}
use Rattle.ec20.specs.Walked.{Done}
use Rattle.ec20.specs.Control.{Controls, marks, found_in_body, first_label}
use Rattle.ec20.specs.Walkers.{sequence_of, walk_of}
use Rattle.ec20.specs.Labels.{same, label_fault, opens_of, Stands}
use Rattle.bound.proofs.Rows.{Seq, empty, plain, loop, low, Complete, top, walked}
use Rattle.bound.proofs.Home.{Home, outside, inside, locate}
use Rattle.bound.proofs.First.{first-at, same_true}
use Rattle.bound.proofs.Search.{wanted, unwanted, over, in_row, at_next, at_last}
use Rattle.bound.proofs.Opens.{Lacks, below-lacks, opens-below, left_behind}
use Rattle.bound.proofs.Opens.{open-steady, open_for, open_next, row_opens, loop-opens, row-deep}

module _ (code : Controls) (count : ℕ) where
  module _ (l : ℕ) where
    -- the row after a CJ
    peel : {d k e w : ℕ} → Seq code d k e w → code k ≡ Jumps l → (code e ≡ Jumps l → ⊥) → (u : ℕ) × Seq code d (k + 1) e u
    peel empty q f = absurd (f q)
    peel (plain {w = w} o t) q f = (w, t)
    peel (loop g x r y t) q f = let z : ◌≡◌ {A = ℕ} 0 1 = cc in absurd (omega arith)

    -- a label that stands at the level of a row is found from its start
    reach : {d s e w : ℕ} → Seq code d s e w → e < count → (t : ℕ) → s ≤ t → t < e → opens_of code t ≡ opens_of code s
        → ((j : ℕ) → s ≤ j → j < t → marks l (code j) ≡ false)
        → marks l (code t) ≡ true → found_in_body code count (marks l) 0 s ≡ At t
    unfolding marks
    reach empty i t p q o f g = absurd (omega arith)
    reach {s = s} (plain u r) i t p q o f g =
        elim (ℕ_discrete s t) [
          | yes a ↦ rw (← a) (wanted code count (marks l) s (omega arith) (rw (← a) at g))
          | no a ↦
              unwanted code count (marks l) s (omega arith) (f s (omega arith) (omega arith)) u
              ∙ reach r i t (omega arith) q (o ∙ sym (open-steady code s u)) (λ j a b. f j (omega arith) b) g
        ]
    reach {s = s} {e = e} (loop {b = b} {n = n} k x r y z) i t p q o f g =
        let h : b + 1 ≤ e = low z in
        let m : s + 1 ≤ b = low y in
        elim (ℕ_discrete s t) [
          | yes a ↦ let v : false ≡ true = rw k at (rw (← a) at g) in let c : ◌≡◌ {A = ℕ} 0 1 = cc in absurd (omega arith)
          | no a ↦
              elim (dec_le t b) [
                | yes c ↦
                    let v = rw (open_for code s n k) at (row-deep code y t (omega arith) c) in
                    absurd (omega (arith, ap length o))
                | no c ↦
                    over code count (marks l) s b n k refl x y (omega arith)
                    ∙ reach z i t (omega arith) q (o ∙ sym (loop-opens code k x y)) (λ j a d. f j (omega arith) d) g
              ]
        ]

    module _ (k : ℕ) (q : code k ≡ Jumps l) where
      jump-open : opens_of code (k + 1) ≡ opens_of code k
      jump-open = open-steady code k (rw q tt)

      other : {i : Control} {A : Type 0} (e : ℕ) → code e ≡ i → marks l i ≡ false → marks l (code e) ≡ true → A
      other e x f g = let h : false ≡ true = sym f ∙ sym (ap (marks l) x) ∙ g in let z : ◌≡◌ {A = ℕ} 0 1 = cc in absurd (omega arith)

      -- what the search finds stands in the same body
      found-stands : (t : ℕ) → Home code count k → first_label code count l ≡ At t → found_in_body code count (marks l) 0 (k + 1) ≡ At t
          → Stands code count k l t
      unfolding marks
      found-stands t (outside {e = e} r x z) a f =
          let p = peel r q (λ y. let z : ◌≡◌ {A = ℕ} 0 1 = cc in omega arith) in
          let m = in_row code count l t p.1 (at_last code count (marks l) e z x refl) (omega arith) f in
          let n : k + 1 ≤ t = m.past in
          record { first = a; later = omega arith; body = sym (row_opens code m.rest) ∙ row_opens code r }
      found-stands t (inside {e = e} h r x i o c) a f =
          let p = peel r q (λ y. let z : ◌≡◌ {A = ℕ} 0 1 = cc in omega arith) in
          let m = in_row code count l t p.1 (at_next code count (marks l) e i x refl) i f in
          let n : k + 1 ≤ t = m.past in
          record { first = a; later = omega arith; body = sym (row_opens code m.rest) ∙ row_opens code r }

      -- and what stands there is found
      stands-found : (t : ℕ) → Home code count k → Stands code count k l t → found_in_body code count (marks l) 0 (k + 1) ≡ At t
      unfolding marks
      stands-found t (outside {e = e} r x z) s =
          let p = peel r q (λ y. let z : ◌≡◌ {A = ℕ} 0 1 = cc in omega arith) in
          let f = first-at (λ j. marks l (code j)) count 0 t s.first in
          let n : t < 0 + count = f.high in
          let b : k < t = s.later in
          elim (ℕ_discrete t e) [
            | yes a ↦ other e x refl (rw a at f.passes)
            | no a ↦
                let g : (j : ℕ) → k + 1 ≤ j → j < t → marks l (code j) ≡ false = λ j c m. f.none j (omega arith) m in
                reach p.1 (omega arith) t (omega arith) (omega arith) (s.body ∙ sym jump-open) g f.passes
          ]
      stands-found t (inside {e = e} h r x i o c) s =
          let p = peel r q (λ y. let z : ◌≡◌ {A = ℕ} 0 1 = cc in omega arith) in
          let f = first-at (λ j. marks l (code j)) count 0 t s.first in
          let b : k < t = s.later in
          elim (dec_lt t e) [
            | yes z ↦ reach p.1 i t (omega arith) z (s.body ∙ sym jump-open) (λ j c m. f.none j (omega arith) m) f.passes
            | no z ↦
                elim (ℕ_discrete t e) [
                  | yes a ↦ other e x refl (rw a at f.passes)
                  | no a ↦ absurd ((subst (Lacks h) (s.body ∙ o) (left (omega arith))).0 refl)
                ]
          ]
        where
          -- past the NEXT of the loop h, no record stands in it
          left : e < t → Lacks h (opens_of code t)
          left m =
              let b : k ≤ e = low r in
              let y : (t - (e + 1)) + (e + 1) ≡ t = omega arith in
              let w : opens_of code (e + 1) ≡ opens_of code h = open_next code e h (opens_of code h) x (row_opens code r ∙ o) in
              let v : Lacks h (opens_of code h) = below-lacks h h (opens_of code h) (omega arith) (opens-below code h) in
              let g : Lacks h (opens_of code (e + 1)) = subst (Lacks h) (sym w) v in
              subst (λ (j : ℕ). Lacks h (opens_of code j)) y (left_behind code h (e + 1) (t - (e + 1)) (omega arith) g)

  -- a program of no records has no structure
  pub some-records : (m w : ℕ) → walk_of code count ≡ Done m w → 0 < count
  unfolding sequence_of
  some-records m w e = go count e
    where
      go : (n : ℕ) → sequence_of code n n 0 0 ≡ Done m w → 0 < n
      go zero e = let z : ◌≡◌ {A = ℕ} 0 1 = cc in absurd (omega arith)
      go (suc n) e = omega arith

  -- THE LABEL RULE: of a program whose structure is right, the check finds no fault in a CJ exactly if its label stands later and directly
  -- in the same loop body
  pub label-rule : (m w : ℕ) → walk_of code count ≡ Done m w → (k l : ℕ) → k < count → code k ≡ Jumps l
      → (label_fault code count k (Jumps l) ≡ false → (t : ℕ) × Stands code count k l t)
      × ((t : ℕ) → Stands code count k l t → label_fault code count k (Jumps l) ≡ false)
  unfolding label_fault same
  label-rule m w e k l h q =
      let y = home (walked code count count 0 0 m w (some-records m w e) e) in (
        (λ f. let p = same_true _ _ f in (p.0, found-stands l k q p.0 y p.1 p.2)),
        (λ t s. ap not (ap₂ same s.first (stands-found l k q t y s)) ∙ rw (eq-eqb t t refl)),
      )
    where
      home : {m w : ℕ} → Complete code count 0 0 m w → Home code count k
      home (top {e = e} r x z) =
          elim (ℕ_discrete k e) [
            | yes a ↦ let b : code e ≡ Jumps l = rw a at q in let z : ◌≡◌ {A = ℕ} 0 1 = cc in absurd (omega arith)
            | no a ↦
                locate code count r (omega arith) (λ j u r a c. outside r x z) k (omega arith) (omega arith) (λ y.
                let z : ◌≡◌ {A = ℕ} 0 1 = cc in
                omega arith)
          ]
