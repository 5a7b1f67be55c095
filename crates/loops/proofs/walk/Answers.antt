use native.Mathlib.Omega.{arith}
use Rattle.loops.specs.Walks.{IsSequence}
use Rattle.loops.proofs.walk.Goals as goal

pub returns : goal.returns
unfolding IsSequence
returns c = c.sequence.ensures c.args.count (omega arith)
