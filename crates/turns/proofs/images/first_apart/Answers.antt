use native.Mathlib.Omega.{arith}
use Rattle.turns.proofs.Answers.{same_more}
use Rattle.turns.proofs.images.first_apart.Goals as goal

pub loop-i-init : goal.loop-i-init
loop-i-init c j h = absurd (omega arith)

pub returns-then-a-i : goal.returns-then-a-i
returns-then-a-i c = record { inside = omega arith; same = c.loop-i.invariant; other = c.if-a-i.true }

pub loop-i-preserved : goal.loop-i-preserved
loop-i-preserved c = same_more c.args.a.now c.args.b.now _ c.loop-i.invariant c.if-a-i.false

pub returns : goal.returns
returns c j h = c.loop-i.invariant j (omega arith)
