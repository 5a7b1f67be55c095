-- The job by its cases: refused by 16, by the check, by 9, by a line or by two; or done. Assumes nothing.
use Prim.Native.Nat.{ℕ, ◌≤◌, ◌<◌}
use mathlib.Core.Bool.{Bool, true, false, not}
use mathlib.Core.List.{List}
use mathlib.Core.Path.{◌≡◌, refl, sym, ap, ap₂, subst, ◌∙◌}
use lib.Dec.{leb}
use lib.IntN.{ℤ}
use lib.ListN.{length}
use borrow.Author.Tests.{le-leb, lt-leb, not-true, not-false}
use Rattle.std.specs.Prelude.{Result, Err}
use Rattle.checker.proofs.Accepted.{Taken, not_taken}
use Rattle.checker.specs.Accepted.{accepted_of}
use Rattle.ec20.proofs.NoFault.{accepted-framed}
use Rattle.ec20.specs.Basics.{pick}
use Rattle.ec20.specs.Check.{check_for, check_of}
use Rattle.ec20.specs.Devices.{ec20}
use Rattle.ec20.specs.File.{Records, records_from, records_of}
use Rattle.ec20.specs.Operands.{first_bad}
use Rattle.ec20.specs.declared.Frame.{Frame as WholeFrame}
use Rattle.ec20.specs.declared.Refusal.{Refusal}
use Rattle.ec20.specs.Judged.{Fine}
use Rattle.ec20.specs.Verdict.{Verdict}
use Rattle.job_moves.specs.Ready.{Fit, Ready, Movable, judged_by}
use Rattle.jobs.proofs.Laws.{tasks-length}
use Rattle.jobs.specs.Job.{refused, right_table, answer_after, job_answer, Job, job, job_if, job_for, job_of}
use Rattle.jobs.specs.Tasks.{Task, moved_by, exchanged_by, tasks_of}
use Rattle.jobs.specs.Jobbed.{Jobbed}
use Rattle.jobs.specs.Jobbed.{Done}
use Rattle.jobs.specs.declared.JobRefusal.{JobRefusal}
use Rattle.moved.proofs.Bytes.{frame-whole}
use Rattle.records.specs.Ranges.{Held}

-- ---- what is known of the file

module _ (f : List ℕ) where
  own : {w : WholeFrame} → Taken f w → records_from f w.first w.count ≡ records_of f
  own t = rw (t.first, t.count) refl

  fit_of : {w : WholeFrame} → Taken f w → Fit f
  unfolding check_of
  fit_of t = record { records = t.records; steps = t.steps; accepted = t.verdict }

  pub is-ready : {w : WholeFrame} → Held (length f) w.first w.count → Taken f w → Ready f w.first w.count
  is-ready h t =
      let a = fit_of t in
      record {
        fit = a;
        checked = record { held = h; begin = t.first; many = t.count; fine = subst (λ (rs : Records). first_bad ec20 rs ≡ Fine) (sym (own t)) t.fine };
        whole = frame-whole f (accepted-framed ec20 f a.records a.steps a.accepted);
      }

  pub is-movable : {first count : ℕ} → Ready f first count → Movable f first count
  is-movable r = record { held = r.checked.held; begin = r.checked.begin; many = r.checked.many; whole = r.whole }

-- ---- and of the table

pub is_right : (d : List ℤ) → not (right_table ec20 d) ≡ false → right_table ec20 d ≡ true
is_right d h = not-false (right_table ec20 d) h

-- ---- what is told

module _ (f : List ℕ) (d : List ℤ) (ls : List (List ℕ)) where
  abbrev ts : List Task
  ts = tasks_of ls

  -- the job by what is told of it
  abbrev by : Jobbed → Job
  by a = job_if a f d ts

  -- by the lines
  pub lines-refused : {r : JobRefusal} → ◌≡◌ {A = Jobbed} (Err r) (judged_by f ls) → job (Err r) f d ≡ by (judged_by f ls)
  lines-refused e = ap by e

  pub lines-done : {n : ℕ} {g : List ℕ} {h : List ℤ} → Done n ≡ judged_by f ls → g ≡ moved_by ts f → h ≡ exchanged_by ts d → job (Done n) g h ≡ by (judged_by f ls)
  lines-done {n = n} e a b = ap₂ (job (Done n)) a b ∙ ap by e

  -- by the table
  abbrev by_table : Bool → Job
  by_table t = by (pick t (judged_by f ls) (refused 9 0))

  pub wrong-table : not (right_table ec20 d) ≡ true → job (refused 9 0) f d ≡ by_table (right_table ec20 d)
  wrong-table h = sym (ap by_table (not-true (right_table ec20 d) h))

  pub right-table : {o : Job} → not (right_table ec20 d) ≡ false → o ≡ by (judged_by f ls) → o ≡ by_table (right_table ec20 d)
  right-table h q = q ∙ sym (ap by_table (is_right d h))

  -- by the check
  abbrev by_verdict : Verdict → Jobbed
  by_verdict v = answer_after ec20 v f d ts

  few : length ls ≤ 64 → by (by_verdict (check_for ec20 f)) ≡ job_of f d ts
  unfolding job_of job_for job_answer
  few h =
      sym (ap (λ (t : Bool). by (pick t (by_verdict (check_for ec20 f)) (refused 16 0)))
      (ap (λ (n : ℕ). leb n 64) (tasks-length ls) ∙ le-leb _ _ h))

  pub too_many : 64 < length ls → job (refused 16 0) f d ≡ job_of f d ts
  unfolding job_of job_for job_answer
  too_many h =
      sym (ap (λ (t : Bool). by (pick t (by_verdict (check_for ec20 f)) (refused 16 0)))
      (ap (λ (n : ℕ). leb n 64) (tasks-length ls) ∙ lt-leb _ _ h))

  module _ (h : length ls ≤ 64) where
    pub unfit : {r : Refusal} → ◌≡◌ {A = Result WholeFrame Refusal} (Err r) (accepted_of f) → job (refused r.number r.at) f d ≡ job_of f d ts
    unfolding check_of
    unfit e = ap (λ (x : Verdict). by (by_verdict x)) (not_taken f e) ∙ few h

    pub fit : {w : WholeFrame} {o : Job} → Taken f w → o ≡ by_table (right_table ec20 d) → o ≡ job_of f d ts
    unfolding check_of
    fit t q = q ∙ ap (λ (x : Verdict). by (by_verdict x)) (sym t.verdict) ∙ few h
