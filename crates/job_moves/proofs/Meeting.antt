-- One turn of the loops that look for lines that meet. Assumes nothing.
use Prim.Native.Nat.{ℕ, suc, ◌+◌, ◌-◌, ◌≤◌, ◌<◌}
use mathlib.Core.Bool.{Bool, true, false}
use mathlib.Core.List.{List, []}
use mathlib.Core.Path.{◌≡◌, sym, ap, ap₂, ◌∙◌}
use native.Mathlib.Numerals.{add-one}
use native.Mathlib.Omega.{arith}
use lib.ListN.{length, get_or}
use Rattle.ec20.specs.Basics.{first_at}
use Rattle.ec20.specs.Found.{Found}
use Rattle.ec20.specs.Found.{At, Nowhere}
use Rattle.job_moves.specs.Ready.{meetings_in}
use Rattle.jobs.proofs.Laws.{tasks-length, task-at}
use Rattle.jobs.specs.Job.{task_at, met_by, meet_then, meetings}
use Rattle.jobs.specs.Tasks.{tasks_meet, task_of, tasks_of}
use Rattle.jobs.specs.Jobbed.{Jobbed}
use Rattle.jobs.specs.Jobbed.{Refused, Done}
use Rattle.labels.proofs.Laws.{passes, fails, none}

module _ (ls : List (List ℕ)) where
  -- ---- one line and those ahead of it

  module _ (i : ℕ) where
    -- line j meets line i
    abbrev pub meeting : ℕ → Bool
    meeting j = tasks_meet (task_at (tasks_of ls) j) (task_at (tasks_of ls) i)

    -- the first line from j on, ahead of line i, that meets it
    abbrev pub ahead : ℕ → Found
    ahead j = first_at meeting j (i - j)

    -- as the code compares them
    is-meeting : (j : ℕ) {t : Bool} → t ≡ tasks_meet (task_of (get_or ls j [])) (task_of (get_or ls i [])) → t ≡ meeting j
    is-meeting j e = e ∙ ap₂ tasks_meet (sym (task-at ls j)) (sym (task-at ls i))

    module _ (j : ℕ) {t : Bool} where
      pub met : j < i → t ≡ tasks_meet (task_of (get_or ls j [])) (task_of (get_or ls i [])) → t ≡ true → At j ≡ ahead j
      met h e g = passes meeting j i h (is-meeting j e) g

      pub unmet : j < i → t ≡ tasks_meet (task_of (get_or ls j [])) (task_of (get_or ls i [])) → t ≡ false → ahead j ≡ ahead (j + 1)
      unmet h e g = fails meeting j i h (is-meeting j e) g

    pub none_ahead : (j : ℕ) → i ≤ j → Nowhere ≡ ahead j
    none_ahead j h = none meeting j i h

    pub all-ahead : ahead 0 ≡ met_by (tasks_of ls) i
    unfolding met_by
    all-ahead = ap (λ (n : ℕ). first_at meeting 0 n) {x = i - 0} {y = i} (omega arith)

  -- ---- line by line

  -- what is told of the lines from number i on
  abbrev pub from : ℕ → Jobbed
  from i = meetings (tasks_of ls) i (length ls - i)

  step : (i : ℕ) → i < length ls → from i ≡ meet_then i (met_by (tasks_of ls) i) (from (i + 1))
  unfolding meetings
  step i h = let e : length ls - i ≡ suc (length ls - (i + 1)) = omega arith in rw (e, add-one)

  module _ (i : ℕ) (h : i < length ls) where
    pub meets_at : {j : ℕ} → At j ≡ met_by (tasks_of ls) i → Refused 14 0 i j ≡ from i
    meets_at e = ap (λ (y : Found). meet_then i y (from (i + 1))) e ∙ sym (step i h)

    pub meets-none : Nowhere ≡ met_by (tasks_of ls) i → from i ≡ from (i + 1)
    meets-none e = step i h ∙ ap (λ (y : Found). meet_then i y (from (i + 1))) (sym e)

  -- no line is left
  pub meets-over : (i : ℕ) → length ls ≤ i → Done (length ls) ≡ from i
  unfolding meetings
  meets-over i h = ap Done (sym (tasks-length ls)) ∙ ap (λ (n : ℕ). meetings (tasks_of ls) i n) {x = 0} {y = length ls - i} (omega arith)

  pub all_lines : from 0 ≡ meetings_in ls
  all_lines =
      ap (λ (n : ℕ). meetings (tasks_of ls) 0 n) {x = length ls - 0} {y = length ls} (omega arith)
      ∙ ap (λ (n : ℕ). meetings (tasks_of ls) 0 n) (sym (tasks-length ls))
