use borrow.Author.Rules.{rules}
use Rattle.crc.proofs.Takes.{takes_one, takes_two, two-small}
use Rattle.crc.proofs.eights.pair.Goals as goal

pub returns : goal.returns
returns c = (takes_two _ _ _ _ (takes_one _ _ _ (search rules) c.from.ensures) (takes_one _ _ _ (search rules) c.from-2.ensures), two-small _ _ (search rules) (search rules))
