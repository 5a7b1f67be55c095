-- Each answer by its constructor. Assumes nothing.
use mathlib.Core.Path.{refl}
use Rattle.jobs.specs.Job.{told_by_job}
use Rattle.host.proofs.job_lists.told.Goals as goal

pub returns-in-Err : goal.returns-in-Err
unfolding told_by_job
returns-in-Err c = rw c.in-Err.is (record { number_after = refl; at_after = refl; line_after = refl; other_after = refl })

pub returns-in-Ok : goal.returns-in-Ok
unfolding told_by_job
returns-in-Ok c = rw c.in-Ok.is (record { number_after = refl; at_after = refl; line_after = refl; other_after = refl })
