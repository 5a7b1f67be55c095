-- What comes of a job over a program file and a D table: a list of tasks (ours). In this order: 16, over 64 tasks; 1 to 8 of the file; 9 of the table;
-- task by task what the move by it, on the file as it is lent, refuses; 14 where two tasks meet. "A refused call leaves all lent memory unchanged".
use Rattle.std.specs.Prelude.{ℕ, zero, suc, Bool, ◌||◌, List, [], ◌∷◌, leb, eqb, ℤ, length, get_or, Err, Ok}
use Rattle.ec20.specs.Basics.{pick, first_at}
use Rattle.ec20.specs.Check.{check_for}
use Rattle.ec20.specs.Devices.{Device, ec20}
use Rattle.ec20.specs.Move.{block}
use Rattle.ec20.specs.Found.{Found}
use Rattle.ec20.specs.Found.{At, Nowhere}
use Rattle.ec20.specs.Moved.{Moved}
use Rattle.ec20.specs.Moved.{To}
use Rattle.ec20.specs.Verdict.{Verdict}
use Rattle.jobs.specs.Tasks.{Task, task, move_by, tasks_meet, moved_by, exchanged_by}
use Rattle.jobs.specs.Jobbed.{Jobbed}
use Rattle.jobs.specs.Jobbed.{Refused, Done}

-- a refusal that is told at no line
abbrev pub refused : ℕ → ℕ → Jobbed
refused m k = Refused m k 0 0

-- task i is refused as its move is; else comes what the rest says
abbrev pub task_then : ℕ → Moved → Jobbed → Jobbed
task_then i (To q) rest = rest
task_then i (Err r) rest = Refused r.number r.at i i

-- "line by line the refusal that `move` on the original gives": of the tasks, the first of which is number i; else what comes then
unfoldable pub by_tasks : Device → List ℕ → ℕ → List Task → Jobbed → Jobbed
by_tasks v f i [] then = then
by_tasks v f i (t ∷ ts) then =
    let rest = by_tasks v f (suc i) ts then in
    task_then i (move_by v f t).answer rest

-- what stands past the end of a job
abbrev pub no_task : Task
no_task = task (block 0 0) 0

abbrev pub task_at : List Task → ℕ → Task
task_at ts i = get_or ts i no_task

-- the first task ahead of number i that it meets
unfoldable pub met_by : List Task → ℕ → Found
met_by ts i = first_at (λ j. tasks_meet (task_at ts j) (task_at ts i)) 0 i

-- task i meets task j; else comes what the rest says
abbrev pub meet_then : ℕ → Found → Jobbed → Jobbed
meet_then i (At j) rest = Refused 14 0 i j
meet_then i Nowhere rest = rest

-- 14 "if two of all the blocks and places meet", of the n tasks from number i on and all ahead of them; else the job is done
unfoldable pub meetings : List Task → ℕ → ℕ → Jobbed
meetings ts i zero = Done (length ts)
meetings ts i (suc n) =
    let rest = meetings ts (suc i) n in
    meet_then i (met_by ts i) rest

-- "9 of MEMORY, if it is given": a table of as many words as the device has, or none
abbrev pub right_table : Device → List ℤ → Bool
right_table v d = eqb (length d) v.words || eqb (length d) 0

-- what is told of a job, by the check's verdict
abbrev pub answer_after : Device → Verdict → List ℕ → List ℤ → List Task → Jobbed
answer_after v (Err r) f d ts = refused r.number r.at
answer_after v (Ok a) f d ts = pick (right_table v d) (by_tasks v f 0 ts (meetings ts 0 (length ts))) (refused 9 0)

unfoldable pub job_answer : Device → List ℕ → List ℤ → List Task → Jobbed
job_answer v f d ts = pick (leb (length ts) 64) (answer_after v (check_for v f) f d ts) (refused 16 0)

-- the answer, and what file and table hold after it
pub record Job : Type 0 where
  pub answer : Jobbed
  pub file : List ℕ
  pub words : List ℤ

abbrev pub job : Jobbed → List ℕ → List ℤ → Job
job a f d = record { answer = a; file = f; words = d }

abbrev pub job_if : Jobbed → List ℕ → List ℤ → List Task → Job
job_if (Err r) f d ts = job (Err r) f d
job_if (Done n) f d ts = job (Done n) (moved_by ts f) (exchanged_by ts d)

unfoldable pub job_for : Device → List ℕ → List ℤ → List Task → Job
job_for v f d ts = job_if (job_answer v f d ts) f d ts

-- a job over an EC20 file and table
unfoldable pub job_of : List ℕ → List ℤ → List Task → Job
job_of f d ts = job_for ec20 f d ts

-- What a host is told: the number of the refusal (0: done), its record, and the lines.
pub record ToldJob : Type 0 where
  pub number : ℕ
  pub at : ℕ
  pub line : ℕ
  pub other : ℕ

unfoldable pub told_by_job : Jobbed → ToldJob
told_by_job (Err r) = record { number = r.number; at = r.at; line = r.line; other = r.other }
told_by_job (Done n) = record { number = 0; at = 0; line = 0; other = 0 }
