-- The answer by its constructor, and what exchange ensures. Assumes nothing.
use Rattle.ec20.specs.Answers.{told_by_exchange}
use Rattle.host.proofs.ToldLaws.{exchanged}
use Rattle.host.proofs.exchanges.ninhalto_exchange.Goals as goal

pub returns-in-Ok : goal.returns-in-Ok
unfolding told_by_exchange
returns-in-Ok c = let t = exchanged c.exchange.ensures c.in-Ok.is in record { d_after = t.0; number_after = t.1.0; at_after = t.1.1 }

pub returns-in-Err : goal.returns-in-Err
unfolding told_by_exchange
returns-in-Err c = let t = exchanged c.exchange.ensures c.in-Err.is in record { d_after = t.0; number_after = t.1.0; at_after = t.1.1 }
