use native.Mathlib.Omega.{arith}
use Rattle.job_moves.proofs.Exchanging.{exchanging-none, exchanging-more, exchanging-all}
use Rattle.job_moves.proofs.exchange_tasks.Goals as goal

pub loop-at-init : goal.loop-at-init
loop-at-init c = exchanging-none c.args.lines.now c.args.d.now c.requires.0

pub loop-at-preserved : goal.loop-at-preserved
loop-at-preserved c =
    exchanging-more _ _ c.loop-at.at _ _ c.loop-at.invariant (omega arith) (c.requires.1 c.loop-at.at (omega arith)) c.exchange.ensures

pub shape_of-d : goal.shape_of-d
shape_of-d c = c.loop-at.invariant.size

pub returns : goal.returns
returns c = exchanging-all _ _ c.loop-at.at _ c.loop-at.invariant (omega arith)
