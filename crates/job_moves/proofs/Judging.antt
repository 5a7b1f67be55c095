-- What the move by a line answers, and one turn of the loop over the lines. Assumes nothing.
use Prim.Native.Nat.{ℕ, ◌+◌, ◌≤◌, ◌<◌}
use mathlib.Core.List.{List, []}
use mathlib.Core.Path.{◌≡◌, sym, ap, ap₂, ◌∙◌}
use native.Mathlib.Numerals.{add-one}
use lib.ListN.{length, get_or, drop, drop_of_length-le}
use lib.Seq.{drop-cons}
use Rattle.ec20.specs.Devices.{ec20}
use Rattle.ec20.specs.File.{Records, records_from}
use Rattle.ec20.specs.Move.{Block, Pool, judge_move, place_of, move_to, move_if, move_after, move_for}
use Rattle.ec20.specs.Found.{Found}
use Rattle.ec20.specs.Found.{At, Nowhere}
use Rattle.ec20.specs.Judged.{Judged}
use Rattle.ec20.specs.Judged.{Fine}
use Rattle.ec20.specs.declared.Refusal.{Refusal}
use Rattle.std.specs.Prelude.{Err}
use Rattle.ec20.specs.Moved.{Moved}
use Rattle.ec20.specs.Moved.{To, Refused as NotMoved}
use Rattle.ec20.specs.Verdict.{Verdict}
use Rattle.job_moves.specs.Ready.{Ready}
use Rattle.jobs.specs.Job.{task_then, by_tasks}
use Rattle.jobs.specs.Tasks.{move_by, task_of, tasks_of}
use Rattle.jobs.specs.Jobbed.{Jobbed}
use Rattle.jobs.specs.Jobbed.{Refused}

module _ (f : List ℕ) (b : Block) where
  -- 14, or the place
  pub place_found : {p : Found} {q : ℕ} → At q ≡ p → To q ≡ (move_to p f b).answer
  place_found e = ap (λ (y : Found). (move_to y f b).answer) e

  pub no_place : {p : Found} → Nowhere ≡ p → NotMoved 14 0 ≡ (move_to p f b).answer
  no_place e = ap (λ (y : Found). (move_to y f b).answer) e

  -- 10 to 14, of records
  module _ (l : Pool) where
    abbrev by : Records → Moved
    by rs = (move_if (judge_move ec20 rs b l) (place_of ec20 rs b l) f b).answer

    -- the records are the file's own, and the check accepts it
    own : {first count : ℕ} → Ready f first count → by (records_from f first count) ≡ (move_for ec20 f b l).answer
    unfolding move_for
    own r =
        ap₂ (λ (i n : ℕ). by (records_from f i n)) r.checked.begin r.checked.many
        ∙ sym (ap (λ (v : Verdict). (move_after ec20 v f b l).answer) r.fit.accepted)

    module _ {first count : ℕ} (r : Ready f first count) where
      abbrev judged : Judged → Moved
      judged j = (move_if j (place_of ec20 (records_from f first count) b l) f b).answer

      pub judged-bad : {d : Refusal} → ◌≡◌ {A = Judged} (Err d) (judge_move ec20 (records_from f first count) b l) → ◌≡◌ {A = Moved} (Err d) (move_for ec20 f b l).answer
      judged-bad e = ap judged e ∙ own r

      pub judged-fine : {x : Moved} → Fine ≡ judge_move ec20 (records_from f first count) b l → x ≡ (move_to (place_of ec20 (records_from f first count) b l) f b).answer → x ≡ (move_for ec20 f b l).answer
      judged-fine e q = q ∙ ap judged e ∙ own r

-- ---- line by line

module _ (f : List ℕ) (ls : List (List ℕ)) (then : Jobbed) where
  -- what is told of the lines from number k on
  abbrev pub from : ℕ → Jobbed
  from k = by_tasks ec20 f k (tasks_of (drop k ls)) then

  step : (k : ℕ) → k < length ls → from k ≡ task_then k (move_by ec20 f (task_of (get_or ls k []))).answer (from (k + 1))
  unfolding by_tasks
  step k h = ap (λ (r : List (List ℕ)). by_tasks ec20 f k (tasks_of r) then) (drop-cons ls k [] h) ∙ rw add-one

  module _ (k : ℕ) (h : k < length ls) where
    pub line_refused : {r : Refusal} → ◌≡◌ {A = Moved} (Err r) (move_by ec20 f (task_of (get_or ls k []))).answer → Refused r.number r.at k k ≡ from k
    line_refused e = ap (λ (y : Moved). task_then k y (from (k + 1))) e ∙ sym (step k h)

    pub line-accepted : {q : ℕ} → To q ≡ (move_by ec20 f (task_of (get_or ls k []))).answer → from k ≡ from (k + 1)
    line-accepted e = step k h ∙ ap (λ (y : Moved). task_then k y (from (k + 1))) (sym e)

  -- no line is left
  pub lines-over : (k : ℕ) → length ls ≤ k → then ≡ from k
  unfolding by_tasks
  lines-over k h = sym (ap (λ (r : List (List ℕ)). by_tasks ec20 f k (tasks_of r) then) (drop_of_length-le ls h))
