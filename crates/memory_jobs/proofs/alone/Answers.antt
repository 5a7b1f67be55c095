-- The job over no word, or over one. Assumes nothing.
use Rattle.memory_jobs.proofs.Images.{without}
use Rattle.memory_jobs.proofs.alone.Goals as goal

pub returns-then-right : goal.returns-then-right
returns-then-right c =
    let a = without _ _ _ _ c.job.ensures c.if-right.true in
    record { value = a.0; file_after = a.1 }

pub returns : goal.returns
returns c =
    let a = without _ _ _ _ c.job-2.ensures c.if-right.false in
    record { value = a.0; file_after = a.1 }
