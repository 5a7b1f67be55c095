-- Tables and leftovers split, the job in D, and all joined. Assumes nothing.
use Rattle.memory_jobs.proofs.Images.{job-after}
use Rattle.memory_jobs.proofs.in_image.Goals as goal

pub returns : goal.returns
returns c =
    let split = c.split-tables.ensures in
    let join = c.join.ensures in
    let a = job-after _ _ split.value split.back c.job-moves.ensures join.image_after join.value in
    record { value = a.0; file_after = a.1.0; image_after = a.1.1.0; image_after_2 = a.1.1.1.0; file_unchanged = a.1.1.1.1 }
