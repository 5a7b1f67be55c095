-- The answer by its constructor, and what answer ensures. Assumes nothing.
use mathlib.Core.Path.{ap, ◌∙◌}
use Rattle.std.specs.Prelude.{Ok}
use Rattle.host.proofs.ToldLaws.{answered}
use Rattle.modbus.specs.Answer.{told_by_answer}
use Rattle.host.proofs.answers.ninhalto_answer.Goals as goal

pub returns-in-Err : goal.returns-in-Err
unfolding told_by_answer
returns-in-Err c = let t = answered c.answer.ensures c.in-Err.is in record { m_after = t.0; d_after = t.1.0; reply_after = t.1.1.0; number_after = t.1.1.1.0; kind_after = t.1.1.1.1.0; length_after = t.1.1.1.1.1 }

pub returns-in-Ok-None : goal.returns-in-Ok-None
unfolding told_by_answer
returns-in-Ok-None c = let t = answered c.answer.ensures (c.in-Ok-None.is ∙ ap Ok c.in-Ok-None.field-0-is) in record { m_after = t.0; d_after = t.1.0; reply_after = t.1.1.0; number_after = t.1.1.1.0; kind_after = t.1.1.1.1.0; length_after = t.1.1.1.1.1 }

pub returns-in-Ok-Some : goal.returns-in-Ok-Some
unfolding told_by_answer
returns-in-Ok-Some c = let t = answered c.answer.ensures (c.in-Ok-Some.is ∙ ap Ok c.in-Ok-Some.field-0-is) in record { m_after = t.0; d_after = t.1.0; reply_after = t.1.1.0; number_after = t.1.1.1.0; kind_after = t.1.1.1.1.0; length_after = t.1.1.1.1.1 }
