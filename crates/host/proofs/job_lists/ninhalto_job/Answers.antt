-- The numbers told of the answer, and what job ensures. Assumes nothing.
use Rattle.host.proofs.ToldLaws.{jobbed}
use Rattle.host.proofs.job_lists.ninhalto_job.Goals as goal

pub returns : goal.returns
returns c = let t = jobbed c.job.ensures (c.told.ensures.number_after, (c.told.ensures.at_after, (c.told.ensures.line_after, c.told.ensures.other_after))) in record { f_after = t.0; d_after = t.1.0; number_after = t.1.1.0; at_after = t.1.1.1.0; line_after = t.1.1.1.1.0; other_after = t.1.1.1.1.1 }
