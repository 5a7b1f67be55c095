-- 7, as the check computes it and as the table says it, of a program whose structure is right.
use Prim.Native.Nat.{ℕ, ◌<◌}
use mathlib.Core.Bool.{Bool, true, false, not}
use mathlib.Core.Path.{◌≡◌, refl, sym, ap, ◌∙◌}
use native.Mathlib.Omega.{arith}
use native.Mathlib.Decide.{dec_lt}
use borrow.Author.Tests.{eqb-true, eqb-false, eq-eqb, ne_eqb, not-true}
use Rattle.ec20.specs.declared.Control.{Control}
use Rattle.ec20.specs.declared.Control.TheVariants.{Plain, Opens, Closes, Jumps, Marks, Ends}
use Rattle.ec20.specs.Found.{Found}
use Rattle.ec20.specs.Found.{At, Nowhere}
use Rattle.ec20.specs.Walked.{Done}
use Rattle.ec20.specs.Basics.{first_at, refused_at}
use Rattle.ec20.specs.Code.{Program}
use Rattle.ec20.specs.Control.{Controls, control_of, controls_of, marks, first_label}
use Rattle.ec20.specs.Labels.{same, label_fault, first_unlabelled}
use Rattle.ec20.specs.Walkers.{walked}
use Rattle.ec20.proofs.Tests.{differ}
use Rattle.bound.proofs.First.{no-first, first-at}
use Rattle.bound.proofs.LabelRule.{label-rule}
use Rattle.refusals.specs.Labels.{Line7, set_twice, astray}
use Rattle.refusals.proofs.Search.{Judges}
use Rattle.refusals.proofs.Controls.{is-jump, is-label}

-- what marks a label, and what does not
marking : (l : ℕ) (i : Control) → marks l i ≡ true → i ≡ Marks l
unfolding marks
marking l Plain e = differ (sym e)
marking l (Opens n) e = differ (sym e)
marking l Closes e = differ (sym e)
marking l (Jumps m) e = differ (sym e)
marking l (Marks m) e = ap Marks (eqb-true m l e)
marking l Ends e = differ (sym e)

marked : (l : ℕ) (i : Control) → i ≡ Marks l → marks l i ≡ true
unfolding marks
marked l i e = rw e (eq-eqb l l refl)

module _ (code : Controls) (count : ℕ) where
  -- an LBL at fault is not the first of its label, and the other way round
  earlier : (k l : ℕ) → k < count → code k ≡ Marks l → (x : Found) → first_label code count l ≡ x → not (same x (At k)) ≡ true
      → (j : ℕ) × (j < k) × (code j ≡ Marks l)
  unfolding same
  earlier k l h e (At t) q f =
      let r = first-at (λ j. marks l (code j)) count 0 t q in
      let n : t ≡ k → ⊥ = eqb-false t k (not-true _ f) in
      elim (dec_lt k t) [
        | yes g ↦ differ (sym (marked l (code k) e) ∙ r.none k (omega arith) g)
        | no g ↦ (t, omega arith, marking l (code t) r.passes)
      ]
  earlier k l h e Nowhere q f =
      differ (sym (marked l (code k) e) ∙ no-first (λ j. marks l (code j)) count 0 q k (omega arith) (omega arith))

  later : (k j l : ℕ) → j < k → code j ≡ Marks l → (x : Found) → first_label code count l ≡ x → not (same x (At k)) ≡ true
  unfolding same
  later k j l h e (At t) q =
      let r = first-at (λ j. marks l (code j)) count 0 t q in
      elim (dec_lt j t) [
        | yes g ↦ differ (sym (marked l (code j) e) ∙ r.none j (omega arith) g)
        | no g ↦ ap not (ne_eqb t k (λ z. omega arith))
      ]
  later k j l h e Nowhere q = refl

module _ (p : Program) (m w : ℕ) (walks : walked p ≡ Done m w) where
  abbrev Faulty : ℕ → Bool
  Faulty k = label_fault (controls_of p) p.count k (controls_of p k)

  -- the check finds a fault in record k: the line holds of it
  to-line : (k : ℕ) → k < p.count → (i : Control) → controls_of p k ≡ i → label_fault (controls_of p) p.count k i ≡ true → Line7 p k
  unfolding label_fault
  to-line k h Plain e f = differ (sym f)
  to-line k h (Opens n) e f = differ (sym f)
  to-line k h Closes e f = differ (sym f)
  to-line k h (Jumps l) e f =
      astray (is-jump e) (λ t s. differ (sym f ∙ (label-rule (controls_of p) p.count m w walks k l h e).1 t s))
  to-line k h (Marks l) e f =
      let r = earlier (controls_of p) p.count k l h e (first_label (controls_of p) p.count l) refl f in
      set_twice (is-label e) r.1 (is-label r.2)
  to-line k h Ends e f = differ (sym f)

  -- and it finds one wherever the line holds
  from-line : (k : ℕ) → k < p.count → Line7 p k → Faulty k ≡ true
  unfolding label_fault control_of
  from-line k h (set_twice {l = l} {j = j} e a b) =
      rw e (later (controls_of p) p.count k j l a (ap control_of b) (first_label (controls_of p) p.count l) refl)
  from-line k h (astray {l = l} e f) = rw e (go (label_fault (controls_of p) p.count k (Jumps l)) refl)
    where
      go : (t : Bool) → label_fault (controls_of p) p.count k (Jumps l) ≡ t → t ≡ true
      go true q = refl
      go false q = let s = (label-rule (controls_of p) p.count m w walks k l h (ap control_of e)).0 q in absurd (f s.0 s.1)

  told : (x : Found) → first_at Faulty 0 p.count ≡ x → Judges 7 p.count (Line7 p) (refused_at 7 x)
  told (At t) q =
      let r = first-at Faulty p.count 0 t q in
      let h : t < p.count = omega (arith, r.high) in (
        refl,
        record {
          inside = h;
          holds = to-line t h (controls_of p t) refl r.passes;
          before = λ j g l. differ (sym (from-line j (omega arith) l) ∙ r.none j (omega arith) g);
        },
      )
  told Nowhere q = λ j h l. differ (sym (from-line j h l) ∙ no-first Faulty p.count 0 q j (omega arith) (omega arith))

  pub judged-7 : Judges 7 p.count (Line7 p) (first_unlabelled (controls_of p) p.count)
  judged-7 = told (first_at Faulty 0 p.count) refl
