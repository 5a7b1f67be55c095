use Rattle.crc.proofs.Turns.{turn, done}
use Rattle.crc.proofs.single.rest.Goals as goal

pub loop-b-preserved : goal.loop-b-preserved
loop-b-preserved c = (c.byte-c.ensures.1, turn _ _ _ _ _ c.loop-b-test.true c.byte-c.ensures.0 c.loop-b.invariant.1)

pub returns : goal.returns
returns c = (done _ _ _ _ c.loop-b.auto.b-index-end c.loop-b-test.false c.loop-b.invariant.1, c.loop-b.invariant.0)
