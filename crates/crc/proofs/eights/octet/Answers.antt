use Rattle.crc.proofs.Takes.{takes-eight}
use Rattle.crc.proofs.eights.octet.Goals as goal

pub returns : goal.returns
returns c = takes-eight _ _ _ _ c.quad.ensures.0 c.quad-2.ensures.0
