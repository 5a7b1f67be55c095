-- 6, as the check computes it and as the table says it.
use Prim.Native.Nat.{ℕ, zero, suc, ◌+◌, ◌<◌}
use mathlib.Core.Bool.{Bool, true, false, not}
use mathlib.Core.Path.{◌≡◌, refl, sym, ap, ◌∙◌}
use native.Mathlib.Omega.{arith}
use native.Mathlib.Numerals.{add-one}
use lib.Dec.{leb, eqb}
use borrow.Author.Tests.{eqb-true, eqb-false, eq-eqb, ne_eqb, leb-true, le-leb, not-true}
use Rattle.ec20.specs.declared.Control.{Control}
use Rattle.ec20.specs.declared.Control.TheVariants.{Plain, Opens, Closes, Jumps, Marks, Ends}
use Rattle.ec20.specs.Judged.{Judged}
use Rattle.ec20.specs.Judged.{Fault}
use Rattle.ec20.specs.Basics.{pick}
use Rattle.ec20.specs.Code.{Program}
use Rattle.ec20.specs.Devices.{deepest}
use Rattle.ec20.specs.Control.{control_of, controls_of}
use Rattle.ec20.specs.Loops.{breaks_inside, breaks_last, breaks, unsound_from, first_unsound}
use Rattle.ec20.proofs.Tests.{differ}
use Rattle.refusals.specs.Structure.{open_at, depth_at, Line6, stray_next, ninth_for, early_end, last_not_end, for_open_there}
use Rattle.refusals.proofs.Search.{Judges, Says, none_left, this-one, one_more, searched-all}
use Rattle.refusals.proofs.Controls.{is-for, is-next, is-end}

-- the last record breaks the structure if it does not end the program, and if a loop is open there
last-other : (i : Control) (d : ℕ) → (i ≡ Ends → ⊥) → breaks_last i d ≡ true
unfolding breaks_last
last-other Plain d h = refl
last-other (Opens n) d h = refl
last-other Closes d h = refl
last-other (Jumps l) d h = refl
last-other (Marks l) d h = refl
last-other Ends d h = absurd (h refl)

last-open : (i : Control) (d : ℕ) → 0 < d → breaks_last i d ≡ true
unfolding breaks_last
last-open Plain d h = refl
last-open (Opens n) d h = refl
last-open Closes d h = refl
last-open (Jumps l) d h = refl
last-open (Marks l) d h = refl
last-open Ends d h = ap not (ne_eqb d 0 (λ (e : d ≡ 0). omega arith))

module _ (p : Program) where
  abbrev breaks_at : ℕ → Bool
  breaks_at k = breaks (controls_of p) p.count (depth_at p k) k

  -- a record that breaks the structure: the line holds of it
  line-last : (k : ℕ) → k + 1 ≡ p.count → (i : Control) → controls_of p k ≡ i → breaks_last i (depth_at p k) ≡ true → Line6 p k
  unfolding breaks_last control_of
  line-last k h Plain e f = last_not_end h (λ q. let z : Plain ≡ Ends = sym e ∙ ap control_of q in let y : ◌≡◌ {A = ℕ} 0 1 = cc in omega arith)
  line-last k h (Opens n) e f = last_not_end h (λ q. let z : Opens n ≡ Ends = sym e ∙ ap control_of q in let y : ◌≡◌ {A = ℕ} 0 1 = cc in omega arith)
  line-last k h Closes e f = last_not_end h (λ q. let z : Closes ≡ Ends = sym e ∙ ap control_of q in let y : ◌≡◌ {A = ℕ} 0 1 = cc in omega arith)
  line-last k h (Jumps l) e f = last_not_end h (λ q. let z : Jumps l ≡ Ends = sym e ∙ ap control_of q in let y : ◌≡◌ {A = ℕ} 0 1 = cc in omega arith)
  line-last k h (Marks l) e f = last_not_end h (λ q. let z : Marks l ≡ Ends = sym e ∙ ap control_of q in let y : ◌≡◌ {A = ℕ} 0 1 = cc in omega arith)
  line-last k h Ends e f = let g : depth_at p k ≡ 0 → ⊥ = eqb-false _ 0 (not-true _ f) in for_open_there h (omega arith)

  line-inside : (k : ℕ) → k + 1 < p.count → (i : Control) → controls_of p k ≡ i → breaks_inside i (depth_at p k) ≡ true → Line6 p k
  unfolding breaks_inside
  line-inside k h Plain e f = differ (sym f)
  line-inside k h (Opens n) e f = ninth_for (is-for e) (leb-true _ _ f)
  line-inside k h Closes e f = stray_next (is-next e) (eqb-true _ 0 f)
  line-inside k h (Jumps l) e f = differ (sym f)
  line-inside k h (Marks l) e f = differ (sym f)
  line-inside k h Ends e f = early_end (is-end e) h

  to-line : (k : ℕ) → k < p.count → breaks_at k ≡ true → Line6 p k
  unfolding breaks
  to-line k h f = go (eqb (k + 1) p.count) refl f
    where
      go : (t : Bool) → eqb (k + 1) p.count ≡ t
          → pick t (breaks_last (controls_of p k) (depth_at p k)) (breaks_inside (controls_of p k) (depth_at p k)) ≡ true
          → Line6 p k
      go true q f = line-last k (eqb-true _ _ q) (controls_of p k) refl f
      go false q f = let n : k + 1 ≡ p.count → ⊥ = eqb-false _ _ q in line-inside k (omega arith) (controls_of p k) refl f

  -- and it breaks the structure wherever the line holds
  in_either : (k : ℕ) → ((t : Bool) → pick t (breaks_last (controls_of p k) (depth_at p k)) (breaks_inside (controls_of p k) (depth_at p k)) ≡ true)
      → breaks_at k ≡ true
  unfolding breaks
  in_either k f = f (eqb (k + 1) p.count)

  at_last : (k : ℕ) → k + 1 ≡ p.count → breaks_last (controls_of p k) (depth_at p k) ≡ true → breaks_at k ≡ true
  unfolding breaks
  at_last k h f = rw (eq-eqb _ _ h) f

  from-line : (k : ℕ) → Line6 p k → breaks_at k ≡ true
  unfolding breaks breaks_last breaks_inside control_of
  from-line k (stray_next e h) = in_either k (λ t. rw (e, h) (elim t as (λ (u : Bool). pick u true true ≡ true) [ true ↦ refl | false ↦ refl ]))
  from-line k (ninth_for e h) = in_either k (λ t. rw e (elim t as (λ (u : Bool). pick u true (leb deepest (depth_at p k)) ≡ true) [ true ↦ refl | false ↦ le-leb _ _ h ]))
  from-line k (early_end e h) = rw (ne_eqb (k + 1) p.count (λ (z : k + 1 ≡ p.count). omega arith), e) refl
  from-line k (last_not_end h f) = at_last k h (last-other (controls_of p k) (depth_at p k) (λ e. f (is-end e)))
  from-line k (for_open_there h g) = at_last k h (last-open (controls_of p k) (depth_at p k) g)

  searched : (k n : ℕ) → k + n ≡ p.count → Says 6 (Line6 p) k n (unsound_from (controls_of p) p.count (depth_at p k) k n)
  unfolding unsound_from open_at
  searched k zero h = none_left 6 (Line6 p) k
  searched k (suc n) h = rw add-one (go (breaks_at k) refl (searched (suc k) n (omega arith)))
    where
      rest : Judged
      rest = unsound_from (controls_of p) p.count (depth_at p (suc k)) (suc k) n

      go : (t : Bool) → breaks_at k ≡ t → Says 6 (Line6 p) (suc k) n rest → Says 6 (Line6 p) k (suc n) (pick t (Fault 6 k) rest)
      go true e s = this-one 6 (Line6 p) k n (to-line k (omega arith) e)
      go false e s = one_more 6 (Line6 p) k n rest (λ l. differ (sym (from-line k l) ∙ e)) s

  pub judged-6 : Judges 6 p.count (Line6 p) (first_unsound (controls_of p) p.count)
  unfolding open_at
  judged-6 = searched-all 6 (Line6 p) p.count (first_unsound (controls_of p) p.count) (searched 0 p.count (omega arith))
