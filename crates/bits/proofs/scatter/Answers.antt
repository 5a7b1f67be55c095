-- 64 bits that are put back with others for some of them. Assumes nothing.
use Rattle.bits.proofs.Steps.{spread-code}
use Rattle.bits.proofs.scatter.Goals as goal

pub returns-then-at-bits : goal.returns-then-at-bits
returns-then-at-bits c =
    let a = c.args in
    spread-code a.bits.now _ a.first a.size a.v c.bytes_from-x.result c.requires.0 c.bytes_from-x.ensures c.put_eight.ensures

pub returns-else-at-bits : goal.returns-else-at-bits
returns-else-at-bits c =
    let a = c.args in
    spread-code a.bits.now _ a.first a.size a.v c.bytes_from-x.result c.requires.0 c.bytes_from-x.ensures c.put_fewer.ensures
