-- Its name and how many words there are. Assumes nothing.
use Rattle.calls.proofs.Commands.{salvage-is}
use Rattle.calls.specs.Asked.{salvage_word}
use Rattle.calls.proofs.asked.salvages.Goals as goal

pub returns : goal.returns
unfolding salvage_word
returns c = salvage-is _ _ _ _ c.word.ensures c.count.ensures c.same-named.ensures
