use Rattle.checker.proofs.StageLaws.{whole-file, broken-file}
use mathlib.Core.Path.{sym, ◌∙◌}
use Rattle.checker.proofs.check.Goals as goal

pub returns-in_default : goal.returns-in_default
returns-in_default c = broken-file _ (sym c.in_default.is ∙ c.frame.ensures.value)

pub returns : goal.returns
returns c = c.judge.ensures ∙ whole-file _ c.in-Some.ensures.value
