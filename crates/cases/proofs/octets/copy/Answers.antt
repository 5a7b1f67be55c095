use Rattle.std.proofs.Common.{arith}
use Rattle.cases.specs.Filled.{copied}
use Rattle.cases.proofs.Filling.{filling-none, filling-more, filling-done}
use Rattle.cases.proofs.octets.copy.Goals as goal

pub loop-i-init : goal.loop-i-init
loop-i-init c = filling-none _ _

pub loop-i-preserved : goal.loop-i-preserved
loop-i-preserved c = let s = c.loop-i.invariant in filling-more _ (omega (arith, s.size)) s c.byte_at.ensures

pub returns : goal.returns
unfolding copied
returns c = let s = c.loop-i.invariant in filling-done (omega arith) s
