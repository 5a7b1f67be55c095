use Rattle.commands.proofs.Series.{moved-parts}
use Rattle.commands.proofs.trial.parts.Goals as goal

pub returns : goal.returns
returns c =
    let given = c.args in
    λ m e. c.scans.ensures (moved-parts given.w given.old.now given.new.now given.size m) e
