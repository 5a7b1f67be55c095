-- What is known of the file once the check has accepted it, and of the lines once the move by each is accepted.
use Rattle.std.specs.Prelude.{ℕ, ◌+◌, ◌*◌, ◌<◌, List, [], ◌≡◌, ℤ, length, get_or}
use Rattle.ec20.specs.Check.{check_for}
use Rattle.ec20.specs.Devices.{ec20}
use Rattle.ec20.specs.Exchange.{exchanged, exchange_of}
use Rattle.ec20.specs.File.{first_of, count_of}
use Rattle.ec20.specs.Exchanged.{Done as Exchanges}
use Rattle.ec20.specs.Verdict.{Accepted}
use Rattle.jobs.specs.Job.{by_tasks, meetings}
use Rattle.jobs.specs.Tasks.{Task, task_of, tasks_of}
use Rattle.jobs.specs.Jobbed.{Jobbed}
use Rattle.mover.specs.Ready.{Checked}
use Rattle.records.specs.Ranges.{Held}
use Rattle.rewrite.specs.Numbers.{Below}

-- the check accepts the file
pub record Fit (f : List ℕ) : Type 0 where
  pub records : ℕ
  pub steps : ℕ
  pub accepted : check_for ec20 f ≡ Accepted records steps

-- and its records are known
pub record Ready (f : List ℕ) (first count : ℕ) : Type 0 where
  pub fit : Fit f
  pub checked : Checked ec20 f first count
  pub whole : first_of f + 20 * count_of f + 8 ≡ length f

-- a file whose records a move may change: they, and the trailer, are what follows the comment
pub record Movable (f : List ℕ) (first count : ℕ) : Type 0 where
  pub held : Held (length f) first count
  pub begin : first ≡ first_of f
  pub many : count ≡ count_of f
  pub whole : first_of f + 20 * count_of f + 8 ≡ length f

-- block and place of a task are numbers of four bytes, and their exchange is done in every D table of 8,000 words
pub record Granted (t : Task) : Type 0 where
  pub below : Below t.block.start t.block.length t.place
  pub exchanges : (d : List ℤ) → length d ≡ 8000 → exchange_of d t.block t.place ≡ record { answer = Exchanges; words = exchanged t.block t.place d }

-- so it is of each line
abbrev pub EachGranted : List (List ℕ) → Type 0
EachGranted ls = (j : ℕ) → j < length ls → Granted (task_of (get_or ls j []))

-- 14 where two lines meet, else the job is done
abbrev pub meetings_in : List (List ℕ) → Jobbed
meetings_in ls = meetings (tasks_of ls) 0 (length (tasks_of ls))

-- what is told of the lines, of an accepted file and a right table
abbrev pub judged_by : List ℕ → List (List ℕ) → Jobbed
judged_by f ls = by_tasks ec20 f 0 (tasks_of ls) (meetings_in ls)
