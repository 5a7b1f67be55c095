-- A shift and a mask of 64 bits. Assumes nothing.
use Rattle.bits.proofs.Laws.{packed-range}
use Rattle.bits.proofs.Steps.{part-code}
use Rattle.bits.proofs.gather.Goals as goal

pub returns : goal.returns
returns c =
    let a = c.args in
    let e = part-code a.bits.now a.first a.size c.bytes_from-x.result c.requires.0 c.bytes_from-x.ensures in
    (e, rw e (packed-range a.bits.now a.first a.size))
