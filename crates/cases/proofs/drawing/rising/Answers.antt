use Rattle.std.proofs.Common.{ℕ, ◌+◌, ◌%◌, ap, ◌∙◌, arith}
use Rattle.cases.specs.Drawn.{risen_bytes}
use Rattle.cases.proofs.Filling.{filling-none, filling-more, filling-done}
use Rattle.cases.proofs.Steps.{step-none, step-more}
use Rattle.cases.proofs.drawing.rising.Goals as goal

pub loop-i-init : goal.loop-i-init
loop-i-init c = (filling-none _ _, step-none 256 _ _ (omega arith))

pub loop-i-preserved : goal.loop-i-preserved
loop-i-preserved c =
    let a = c.args in
    let l = c.loop-i in
    let s = l.invariant.0 in (
      filling-more _ (omega (arith, s.size)) s l.invariant.1,
      ap (λ (x : ℕ). (x + a.by) % 256) l.invariant.1 ∙ step-more 256 a.first a.by l.i,
    )

pub returns : goal.returns
unfolding risen_bytes
returns c = let s = c.loop-i.invariant.0 in filling-done (omega arith) s
