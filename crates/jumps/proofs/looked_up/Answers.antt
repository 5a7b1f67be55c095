use native.Mathlib.Omega.{arith}
use Rattle.jumps.proofs.Tables.{filled_none, filled_more, filled-all}
use Rattle.jumps.proofs.looked_up.Goals as goal

pub loop-k-init : goal.loop-k-init
loop-k-init c = filled_none _

pub loop-k-preserved : goal.loop-k-preserved
loop-k-preserved c =
    filled_more _ _ _ _ (omega (arith, c.loop-k-test.true, c.requires.held.most)) c.loop-k.invariant c.goes_to.ensures

pub returns : goal.returns
returns c = filled-all _ _ _ c.loop-k-test.false c.loop-k.invariant
