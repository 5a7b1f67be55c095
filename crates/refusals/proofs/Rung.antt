-- 5, as the check computes it and as the table says it.
use Prim.Native.Nat.{ℕ, zero, suc}
use mathlib.Core.Bool.{Bool, true, false}
use mathlib.Core.Path.{◌≡◌, refl, sym, ap, subst, ◌∙◌}
use Rattle.ec20.specs.Judged.{Judged}
use Rattle.ec20.specs.Judged.{Fault}
use Rattle.ec20.specs.declared.Rung.{Rung}
use Rattle.ec20.specs.Basics.{pick}
use Rattle.ec20.specs.Code.{Program}
use Rattle.ec20.specs.Rung.{keeps, after_record, broken_from, first_broken}
use Rattle.ec20.proofs.Tests.{differ}
use Rattle.refusals.specs.Keeps.{number_of, Keeps}
use Rattle.refusals.specs.Rung.{Before, at_start, after, Line5, broken, rung_at}
use Rattle.refusals.proofs.Keeps.{Formed, kept, goes, goes_to}
use Rattle.refusals.proofs.Search.{Judges, Says, none_left, this-one, one_more, searched-all}

module _ (p : Program) (formed : (k : ℕ) → Formed (p.code k)) where
  -- flow and stacks before a record are those that the check computes, and no others
  pub before : (k : ℕ) → Before p k (rung_at p k)
  unfolding rung_at
  before zero = at_start
  before (suc k) = after (before k) (goes_to (p.code k) (rung_at p k) (formed k))

  pub only-before : {k : ℕ} {s : Rung} → Before p k s → s ≡ rung_at p k
  unfolding rung_at
  only-before at_start = refl
  only-before (after {k = k} {s = s} {t = t} b g) = goes (p.code k) s t (formed k) g ∙ ap (after_record (p.code k)) (only-before b)

  -- the line holds of a record exactly if the check finds that it breaks the rule
  pub line-5 : (k : ℕ) → keeps (p.code k) (rung_at p k) ≡ false → Line5 p k
  line-5 k e = broken (before k) (λ x. differ (sym ((kept (p.code k) (rung_at p k) (formed k)).1 x) ∙ e))

  pub not-line-5 : (k : ℕ) → keeps (p.code k) (rung_at p k) ≡ true → Line5 p k → ⊥
  not-line-5 k e (broken b f) =
      f (subst (Keeps (number_of (p.code k))) (sym (only-before b)) ((kept (p.code k) (rung_at p k) (formed k)).0 e))

  searched : (k n : ℕ) → Says 5 (Line5 p) k n (broken_from p.code (rung_at p k) k n)
  unfolding broken_from rung_at
  searched k zero = none_left 5 (Line5 p) k
  searched k (suc n) = go (keeps (p.code k) (rung_at p k)) refl (searched (suc k) n)
    where
      rest : Judged
      rest = broken_from p.code (rung_at p (suc k)) (suc k) n

      go : (t : Bool) → keeps (p.code k) (rung_at p k) ≡ t → Says 5 (Line5 p) (suc k) n rest → Says 5 (Line5 p) k (suc n) (pick t rest (Fault 5 k))
      go true e s = one_more 5 (Line5 p) k n rest (not-line-5 k e) s
      go false e s = this-one 5 (Line5 p) k n (line-5 k e)

  pub judged-5 : Judges 5 p.count (Line5 p) (first_broken p)
  unfolding rung_at
  judged-5 = searched-all 5 (Line5 p) p.count (first_broken p) (searched 0 p.count)
