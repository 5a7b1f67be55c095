-- Every definition that a computed theorem may have to unfold: `unfolding jobbing` names them all, with those of lists and texts and of the controller.
use Prim.Native.Nat.{ℕ}
use Rattle.units.proofs.Computing.{declarations}
use Rattle.jobs.specs.Tasks.{tasks_meet, moved_by, exchanged_by}
use Rattle.jobs.specs.Job.{by_tasks, met_by, meetings, job_answer, job_for, job_of, told_by_job}
use Rattle.jobs.specs.Text.{job_line_at, job_in}

unfoldable pub jobbing : ℕ
unfolding declarations tasks_meet moved_by exchanged_by by_tasks met_by meetings job_answer job_for job_of told_by_job job_line_at job_in
jobbing = 0
