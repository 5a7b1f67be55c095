use native.Mathlib.Omega.{arith}
use Rattle.cases.proofs.Filling.{filling-none, filling-more, filling-done}
use Rattle.vectors_commands.specs.Called.{call_of}
use Rattle.vectors_commands.proofs.lines.to_call.Goals as goal

pub loop-i-init : goal.loop-i-init
loop-i-init c = filling-none _ _

pub loop-i-preserved : goal.loop-i-preserved
loop-i-preserved c = let s = c.loop-i.invariant in filling-more _ (omega (arith, s.size)) s c.letter.ensures

pub returns : goal.returns
unfolding call_of
returns c = let s = c.loop-i.invariant in filling-done (omega arith) s
