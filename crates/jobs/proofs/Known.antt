-- Jobs, computed: two blocks of a file moved, the order of the refusals, and tasks that meet. Assumes nothing.
use Prim.Native.Nat.{ℕ}
use mathlib.Core.List.{List, [], ◌∷◌}
use mathlib.Core.Path.{◌≡◌, refl}
use lib.IntN.{ℤ, pos}
use lib.ListN.{replicate}
use Rattle.ec20.proofs.Files.{D, r2, alone}
use Rattle.ec20.specs.Devices.{ec20}
use Rattle.ec20.specs.Move.{block}
use Rattle.ec20.specs.Judged.{Fine, Fault}
use Rattle.jobs.specs.Job.{refused, job_answer, job, job_of}
use Rattle.jobs.specs.Tasks.{Task, task}
use Rattle.jobs.specs.Text.{job_in}
use Rattle.jobs.specs.Jobbed.{Refused, Done}
use Rattle.units.specs.Reading.{read}
use Rattle.jobs.proofs.Computing.{jobbing}

-- LD SM0, MOV, END: from the first word to the second
abbrev moves : ℕ → ℕ → List ℕ
moves a b = alone (r2 32 (D a) (D b))

-- the n words from s on, to q
abbrev by : ℕ → ℕ → ℕ → Task
by s n q = task (block s n) q

-- a table of one word
abbrev short : List ℤ
short = pos 0 ∷ []

-- two blocks, each with one of the program's words
pub two_blocks : job_of (moves 100 301) [] (by 100 2 200 ∷ by 300 2 400 ∷ []) ≡ job (Done 2) (moves 200 401) []
unfolding jobbing
two_blocks = refl

-- a job of no task changes nothing
pub no-tasks : job_of (moves 100 301) [] [] ≡ job (Done 0) (moves 100 301) []
unfolding jobbing
no-tasks = refl

-- 16 ahead of 1, and 64 tasks are no fault
pub sixteen-first : job_answer ec20 [] short (replicate 65 (by 0 0 0)) ≡ refused 16 0
unfolding jobbing
sixteen-first = refl

pub sixty-four : job_answer ec20 [] short (replicate 64 (by 0 0 0)) ≡ refused 1 0
unfolding jobbing
sixty-four = refl

-- 1 ahead of 9, and 9 ahead of the tasks
pub one-first : job_answer ec20 [] short (by 100 0 200 ∷ []) ≡ refused 1 0
unfolding jobbing
one-first = refl

pub nine-first : job_answer ec20 (moves 100 301) short (by 100 0 200 ∷ []) ≡ refused 9 0
unfolding jobbing
nine-first = refl

-- an empty block at line 1; a place that is not inside D; a block in WORK; a place in use: ahead of a meeting with line 0
pub ten-at-one : job_answer ec20 (moves 100 301) [] (by 100 2 200 ∷ by 100 0 200 ∷ []) ≡ Refused 10 0 1 1
unfolding jobbing
ten-at-one = refl

pub eleven-at-one : job_answer ec20 (moves 100 301) [] (by 100 2 200 ∷ by 100 2 7999 ∷ []) ≡ Refused 11 0 1 1
unfolding jobbing
eleven-at-one = refl

pub twelve-at-nought : job_answer ec20 (moves 100 301) [] (by 7899 2 200 ∷ by 100 2 200 ∷ []) ≡ Refused 12 0 0 0
unfolding jobbing
twelve-at-nought = refl

pub fourteen-at-two : job_answer ec20 (moves 100 301) [] (by 100 2 200 ∷ by 100 2 200 ∷ by 500 2 300 ∷ []) ≡ Refused 14 0 2 2
unfolding jobbing
fourteen-at-two = refl

-- the place of line 2 and that of line 1 have a word in common
pub places-meet : job_of (moves 100 301) [] (by 100 2 200 ∷ by 300 2 400 ∷ by 500 2 401 ∷ []) ≡ job (Refused 14 0 2 1) (moves 100 301) []
unfolding jobbing
places-meet = refl

-- the block of line 1 and that of line 0; the block of line 1 and the place of line 0
pub blocks-meet : job_answer ec20 (moves 100 301) [] (by 100 2 200 ∷ by 101 2 400 ∷ []) ≡ Refused 14 0 1 0
unfolding jobbing
blocks-meet = refl

pub block-meets-place : job_answer ec20 (moves 100 301) [] (by 100 2 200 ∷ by 201 2 400 ∷ []) ≡ Refused 14 0 1 0
unfolding jobbing
block-meets-place = refl

-- next to each other they do not meet
pub side_by_side : job_answer ec20 (moves 100 301) [] (by 100 2 200 ∷ by 102 2 202 ∷ []) ≡ Done 2
unfolding jobbing
side_by_side = refl

-- `1 2 3`, and a line with no line feed
pub one_line : job_in (49 ∷ 32 ∷ 50 ∷ 32 ∷ 51 ∷ 10 ∷ []) ≡ read Fine ((1 ∷ 2 ∷ 3 ∷ []) ∷ [])
unfolding jobbing
one_line = refl

pub not-ended : job_in (49 ∷ 32 ∷ 50 ∷ 32 ∷ 51 ∷ 10 ∷ 49 ∷ 32 ∷ 50 ∷ 32 ∷ 51 ∷ []) ≡ read (Fault 15 1) ((1 ∷ 2 ∷ 3 ∷ []) ∷ [])
unfolding jobbing
not-ended = refl
