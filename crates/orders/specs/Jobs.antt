-- A job that is done: its lines in any order are a job that is done alike, and the job back restores file and table.
use Rattle.std.specs.Prelude.{ℕ, List, map, ◌≡◌, ℤ, length}
use Rattle.ec20.specs.Devices.{Device}
use Rattle.jobs.specs.Job.{job, job_for}
use Rattle.jobs.specs.Tasks.{Task, back, moved_by, exchanged_by}
use Rattle.jobs.specs.Jobbed.{Done}
use Rattle.orders.specs.Any.{Reordered, AnyOrder}

-- The job ts over the file f and the table d
pub record DoneAlike (v : Device) (f : List ℕ) (d : List ℤ) (ts : List Task) : Type 0 where
  pub done : job_for v f d ts ≡ job (Done (length ts)) (moved_by ts f) (exchanged_by ts d)
  -- what is said of such moves holds of them
  pub any_order : AnyOrder v f ts
  -- its lines in any order: the same answer, the same bytes, the same table
  pub alike : (us : List Task) → Reordered ts us → job_for v f d us ≡ job_for v f d ts
  -- every place back to its block: the file and the table as they were
  pub back_again : job_for v (moved_by ts f) (exchanged_by ts d) (map back ts) ≡ job (Done (length ts)) f d
