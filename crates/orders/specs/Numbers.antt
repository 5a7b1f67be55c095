-- What is told of a job, line by line: "each is given exactly when its line holds and nothing ahead of it in this order does".
use Rattle.std.specs.Prelude.{ℕ, ◌≤◌, ◌<◌, true, false, List, ◌⊎◌, ◌≡◌, ℤ, length}
use Rattle.ec20.specs.Check.{check_for}
use Rattle.ec20.specs.Devices.{Device}
use Rattle.ec20.specs.Moved.{Refused as NotMoved}
use Rattle.ec20.specs.Verdict.{Accepted, Refused as Unfit}
use Rattle.jobs.specs.Job.{task_at}
use Rattle.jobs.specs.Tasks.{Task, move_by, tasks_meet}
use Rattle.jobs.specs.Jobbed.{Jobbed}
use Rattle.jobs.specs.Jobbed.{Refused, Done}
use Rattle.orders.specs.Two.{Goes}

-- nothing of 16, 1 to 8 and 9: at most 64 lines, an accepted file, and a table of as many words as the device has, or of none
pub record Judged (v : Device) (f : List ℕ) (d : List ℤ) (ts : List Task) : Type 0 where
  pub few : length ts ≤ 64
  pub records : ℕ
  pub steps : ℕ
  pub accepted : check_for v f ≡ Accepted records steps
  pub table : (length d ≡ v.words) ⊎ (length d ≡ 0)

-- the move by line i, alone on the original, is refused by m with the record k, and by no line ahead of it
pub record FirstRefused (v : Device) (f : List ℕ) (ts : List Task) (i m k : ℕ) : Type 0 where
  pub there : i < length ts
  pub refused : (move_by v f (task_at ts i)).answer ≡ NotMoved m k
  pub ahead : (j : ℕ) → j < i → Goes v f (task_at ts j)

-- no line is refused
abbrev pub EachGoes : Device → List ℕ → List Task → Type 0
EachGoes v f ts = (j : ℕ) → j < length ts → Goes v f (task_at ts j)

-- line i meets no line ahead of it
abbrev pub Alone : List Task → ℕ → Type 0
Alone ts i = (l : ℕ) → l < i → tasks_meet (task_at ts l) (task_at ts i) ≡ false

-- line i meets one ahead of it, of which j is the first; no line ahead of i does
pub record FirstMeeting (ts : List Task) (i j : ℕ) : Type 0 where
  pub there : i < length ts
  pub before : j < i
  pub meets : tasks_meet (task_at ts j) (task_at ts i) ≡ true
  pub first : (l : ℕ) → l < j → tasks_meet (task_at ts l) (task_at ts i) ≡ false
  pub ahead : (k : ℕ) → k < i → Alone ts k

pub data Told (v : Device) (f : List ℕ) (d : List ℤ) (ts : List Task) : Jobbed → Type 0 where
  -- 16: over 64 lines
  told_16 : 64 < length ts → Told v f d ts (Refused 16 0 0 0)
  -- 1 to 8 of the file
  told_1_8 : {m k : ℕ} → length ts ≤ 64 → check_for v f ≡ Unfit m k → Told v f d ts (Refused m k 0 0)
  -- 9: a table of another size
  told_9 : {n w : ℕ} → length ts ≤ 64 → check_for v f ≡ Accepted n w → (length d ≡ v.words → ⊥) → (length d ≡ 0 → ⊥)
      → Told v f d ts (Refused 9 0 0 0)
  -- "line by line the refusal that `move` .. on the original gives"
  told_line : {i m k : ℕ} → Judged v f d ts → FirstRefused v f ts i m k → Told v f d ts (Refused m k i i)
  -- "then 14 record 0 if two of all the blocks and places meet"
  told_meeting : {i j : ℕ} → Judged v f d ts → EachGoes v f ts → FirstMeeting ts i j → Told v f d ts (Refused 14 0 i j)
  -- and nothing is refused
  told_done : Judged v f d ts → EachGoes v f ts → ((i : ℕ) → i < length ts → Alone ts i) → Told v f d ts (Done (length ts))
