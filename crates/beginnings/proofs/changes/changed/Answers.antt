use Rattle.std.proofs.Common.{◌+◌, arith}
use Rattle.beginnings.proofs.ChangeLaws.{counted_none, counted_same, counted-other, counted-all}
use Rattle.beginnings.proofs.changes.changed.Goals as goal

pub loop-i-init : goal.loop-i-init
loop-i-init c = (omega arith, omega arith, counted_none _ _)

pub returns-then-n-i-le4 : goal.returns-then-n-i-le4
returns-then-n-i-le4 c = counted-all _ _ _ (c.loop-i.i + 4) (counted-other _ _ _ _ c.loop-i.invariant.2 (c.differs.ensures.0 c.if-differs.true)) (omega arith)

pub loop-i-preserved-then-differs : goal.loop-i-preserved-then-differs
loop-i-preserved-then-differs c = (omega arith, omega arith, counted-other _ _ _ _ c.loop-i.invariant.2 (c.differs.ensures.0 c.if-differs.true))

pub loop-i-preserved : goal.loop-i-preserved
loop-i-preserved c = (omega arith, omega arith, counted_same _ _ _ _ c.loop-i.invariant.2 (omega arith) (c.differs.ensures.1 c.if-differs.false))

pub returns : goal.returns
returns c = counted-all _ _ _ c.loop-i.i c.loop-i.invariant.2 (omega arith)
