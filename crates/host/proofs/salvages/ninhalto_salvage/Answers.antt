-- The answer by its constructor, and what salvage ensures. Assumes nothing.
use Rattle.host.proofs.ToldLaws.{salvaged}
use Rattle.torn.specs.Salvage.{told_by_salvage}
use Rattle.host.proofs.salvages.ninhalto_salvage.Goals as goal

pub returns-in-Err : goal.returns-in-Err
unfolding told_by_salvage
returns-in-Err c = let t = salvaged c.salvage.ensures c.in-Err.is in record { out_after = t.0; number_after = t.1.0; at_after = t.1.1.0; kept_after = t.1.1.1.0; added_after = t.1.1.1.1.0; rest_after = t.1.1.1.1.1 }

pub returns-in-Ok : goal.returns-in-Ok
unfolding told_by_salvage
returns-in-Ok c = let t = salvaged c.salvage.ensures c.in-Ok.is in record { out_after = t.0; number_after = t.1.0; at_after = t.1.1.0; kept_after = t.1.1.1.0; added_after = t.1.1.1.1.0; rest_after = t.1.1.1.1.1 }
