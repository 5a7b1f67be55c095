use Rattle.std.proofs.Common.{◌≡◌, ℕ, suc, ◌+◌, ◌-◌, ◌%◌, eqb, refl, ap, ◌∙◌, arith}
use Rattle.ec20.specs.Basics.{pick}
use Rattle.cases.specs.Drawn.{turned_of, state_of, byte_by, drawn_bytes}
use Rattle.cases.proofs.Filling.{filling-none, filling-more, filling-done}
use Rattle.cases.proofs.drawing.draw.Goals as goal

pub loop-i-init : goal.loop-i-init
unfolding state_of
loop-i-init c = (filling-none _ _, refl)

pub loop-i-preserved : goal.loop-i-preserved
unfolding state_of
loop-i-preserved c =
    let a = c.args in
    let l = c.loop-i in
    let s = l.invariant.0 in
    let e = c.next-x.ensures ∙ ap (λ (x : ℕ). pick (eqb ((l.i - a.bits) % 2) 0) (turned_of x) x) l.invariant.1 in
    let n : suc l.i ≡ l.i + 1 = omega arith in (
      filling-more _ (omega (arith, s.size)) s (c.byte.ensures ∙ ap (byte_by a.rule a.bits l.i) e),
      e ∙ ap (state_of a.bits a.seed) n,
    )

pub returns : goal.returns
unfolding drawn_bytes
returns c = let s = c.loop-i.invariant.0 in filling-done (omega arith) s
