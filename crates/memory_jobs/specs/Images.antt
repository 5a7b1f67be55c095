-- A job over a program file and a memory: words of D change places, the other tables and the leftovers stay. It does not look at the leftovers.
use Rattle.std.specs.Prelude.{Bool, true, false, List, [], ◌∷◌, ℕ, ℤ, pos}
use Rattle.ec20.specs.Memory.{with_d}
use Rattle.ec20.specs.Plant.{Plant, plant}
use Rattle.jobs.specs.Job.{Job, job_of}
use Rattle.jobs.specs.Tasks.{Task}
use Rattle.jobs.specs.Jobbed.{Jobbed}

-- the answer, the file, and memory and leftovers after the job
pub record JobOver : Type 0 where
  pub answer : Jobbed
  pub file : List ℕ
  pub plant : Plant

-- what comes of a job over the D table, of the whole memory
abbrev pub over_plant : Plant → Job → JobOver
over_plant p j = record { answer = j.answer; file = j.file; plant = plant (with_d p.mem j.words) p.rest }

-- a program file, memory and leftovers, and the tasks
unfoldable pub job_over : List ℕ → Plant → List Task → JobOver
job_over f p ts = over_plant p (job_of f p.mem.d ts)

-- the D table where there is no memory: none; and where a memory file has another size than 16,892 bytes, one that no device has
abbrev pub no_table : Bool → List ℤ
no_table true = []
no_table false = pos 0 ∷ []
