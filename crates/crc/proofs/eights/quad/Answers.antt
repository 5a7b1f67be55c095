use Rattle.crc.proofs.Takes.{takes-four, four-small}
use Rattle.crc.proofs.eights.quad.Goals as goal

pub returns : goal.returns
returns c = (takes-four _ _ _ _ c.pair.ensures.0 c.pair-2.ensures.0, four-small _ _ c.pair.ensures.1 c.pair-2.ensures.1)
