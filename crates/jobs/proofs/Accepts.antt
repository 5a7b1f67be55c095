-- A job is done exactly if it has 64 tasks at most, the file is accepted, the table is right, each move is accepted alone, and no two tasks meet. Assumes
-- nothing.
use Prim.Native.Nat.{ℕ, zero, suc, ◌≤◌, ◌<◌}
use mathlib.Core.Bool.{Bool, true, false}
use mathlib.Core.List.{List}
use mathlib.Core.Path.{◌≡◌, refl, sym, ap, ◌∙◌}
use native.Mathlib.Omega.{arith}
use lib.Dec.{leb}
use lib.IntN.{ℤ}
use lib.ListN.{length}
use borrow.Author.Tests.{leb-true, le-leb}
use Rattle.std.specs.Prelude.{Err, Ok}
use Rattle.ec20.specs.Basics.{pick}
use Rattle.ec20.specs.Check.{check_for}
use Rattle.ec20.specs.Devices.{Device}
use Rattle.ec20.specs.Found.{Found}
use Rattle.ec20.specs.Found.{At, Nowhere}
use Rattle.ec20.specs.Moved.{To}
use Rattle.ec20.specs.Verdict.{Verdict}
use Rattle.ec20.specs.Verdict.{Accepted}
use Rattle.jobs.specs.Job.{refused, by_tasks, task_at, met_by, meet_then, meetings, right_table, answer_after, job_answer}
use Rattle.jobs.specs.Tasks.{Task, move_by, tasks_meet}
use Rattle.jobs.specs.Jobbed.{Jobbed}
use Rattle.jobs.specs.Jobbed.{Done}
use Rattle.jobs.proofs.Laws.{each-named, after-tasks, all-accepted, none-meets, all_apart}

pub record Accepts (v : Device) (f : List ℕ) (d : List ℤ) (ts : List Task) : Type 0 where
  pub few : length ts ≤ 64
  pub records : ℕ
  pub steps : ℕ
  pub accepted : check_for v f ≡ Accepted records steps
  pub right : right_table v d ≡ true
  -- "each move accepted alone on the original", to the place that is named
  pub moves : (j : ℕ) → j < length ts → (move_by v f (task_at ts j)).answer ≡ To (task_at ts j).place
  -- "all four ranges disjoint"
  pub apart : (i j : ℕ) → j < i → i < length ts → tasks_meet (task_at ts j) (task_at ts i) ≡ false

-- a test that lets a job be done
by-test : (t : Bool) (a : Jobbed) (m k n : ℕ) → pick t a (refused m k) ≡ Done n → (t ≡ true) × (a ≡ Done n)
by-test true a m k n e = (refl, e)
by-test false a m k n e = let z : ◌≡◌ {A = ℕ} 0 1 = cc in absurd (omega arith)

module _ (v : Device) (f : List ℕ) (d : List ℤ) (ts : List Task) where
  -- what is told of the tasks
  abbrev judged : Jobbed
  judged = by_tasks v f 0 ts (meetings ts 0 (length ts))

  by-verdict : (x : Verdict) (n : ℕ) → answer_after v x f d ts ≡ Done n
      → ((r : ℕ) × (w : ℕ) × (x ≡ Accepted r w)) × (pick (right_table v d) judged (refused 9 0) ≡ Done n)
  by-verdict (Ok a) n e = ((a.records, a.steps, refl), e)
  by-verdict (Err r) n e = let z : ◌≡◌ {A = ℕ} 0 1 = cc in absurd (omega arith)

  -- as many moves are told as there are tasks
  told : (i m n : ℕ) → meetings ts i m ≡ Done n → n ≡ length ts
  unfolding meetings
  told i zero n e = let a : length ts ≡ n = cc e in sym a
  told i (suc m) n e = go (met_by ts i) e (λ r. told (suc i) m n r)
    where
      go : (x : Found) → meet_then i x (meetings ts (suc i) m) ≡ Done n → (meetings ts (suc i) m ≡ Done n → n ≡ length ts) → n ≡ length ts
      go (At j) g rec = let z : ◌≡◌ {A = ℕ} 0 1 = cc in absurd (omega arith)
      go Nowhere g rec = rec g

  pub done-accepts : (n : ℕ) → job_answer v f d ts ≡ Done n → Accepts v f d ts × (n ≡ length ts)
  unfolding job_answer
  done-accepts n e =
      let a = by-test (leb (length ts) 64) (answer_after v (check_for v f) f d ts) 16 0 n e in
      let b = by-verdict (check_for v f) n a.1 in
      let c = by-test (right_table v d) judged 9 0 n b.1 in
      let m = after-tasks v f 0 ts (meetings ts 0 (length ts)) n c.1 in (
        record {
          few = leb-true _ _ a.0;
          records = b.0.0;
          steps = b.0.1;
          accepted = b.0.2;
          right = c.0;
          moves = each-named v f 0 ts (meetings ts 0 (length ts)) n c.1;
          apart = none-meets ts n m;
        },
        told 0 (length ts) n m,
      )

  pub accepts-done : Accepts v f d ts → job_answer v f d ts ≡ Done (length ts)
  unfolding job_answer
  accepts-done a =
      ap (λ (t : Bool). pick t (answer_after v (check_for v f) f d ts) (refused 16 0)) (le-leb _ _ a.few)
      ∙ ap (λ (x : Verdict). answer_after v x f d ts) a.accepted
      ∙ ap (λ (t : Bool). pick t judged (refused 9 0)) a.right
      ∙ all-accepted v f 0 ts (meetings ts 0 (length ts)) (λ j h. ((task_at ts j).place, a.moves j h))
      ∙ all_apart ts a.apart
