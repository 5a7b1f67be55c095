use Rattle.host.proofs.ToldLaws.{tells}
use Rattle.ec20.specs.Answers.{told_by_check}
use Rattle.host.proofs.check.ninhalto_check.Goals as goal

pub returns-in-Ok : goal.returns-in-Ok
unfolding told_by_check
returns-in-Ok c = let t = tells c.check.ensures c.in-Ok.is in record { number_after = t.0; at_after = t.1.0; records_after = t.1.1.0; steps_after = t.1.1.1 }

pub returns-in-Err : goal.returns-in-Err
unfolding told_by_check
returns-in-Err c = let t = tells c.check.ensures c.in-Err.is in record { number_after = t.0; at_after = t.1.0; records_after = t.1.1.0; steps_after = t.1.1.1 }
