use Rattle.step.proofs.ExecLaws.{end-arm}
use Rattle.step.proofs.FormLaws as by
use Rattle.step.proofs.step.Goals as goal

pub returns-then-count-s : goal.returns-then-count-s
returns-then-count-s c = end-arm _ _ _ _ _ (by.ended _ _ _ _ c.if-count-s.true) c.stop.ensures
