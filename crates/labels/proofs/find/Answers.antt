use borrow.Author.Rules.{rules}
use mathlib.Core.Path.{refl, sym, ◌∙◌}
use native.Mathlib.Omega.{arith}
use Rattle.labels.proofs.Laws.{hit, stop, on, over, near}
use Rattle.labels.proofs.find.Goals as goal

pub loop-k-init : goal.loop-k-init
loop-k-init c = (omega arith, refl)

pub returns-in-Hit : goal.returns-in-Hit
returns-in-Hit c =
    let l = c.loop-k in
    hit _ _ l.k l.d _ (search rules) c.control_at.ensures c.turn.ensures c.in-Hit.is ∙ sym l.invariant.1

pub returns-in-Stop : goal.returns-in-Stop
returns-in-Stop c =
    let l = c.loop-k in
    stop _ _ l.k l.d _ (search rules) c.control_at.ensures c.turn.ensures c.in-Stop.is ∙ sym l.invariant.1

pub loop-k-preserved : goal.loop-k-preserved
loop-k-preserved c =
    let l = c.loop-k in
    let g = c.in-On.is in
    (omega (arith, near _ _ _ c.turn.ensures g), l.invariant.1 ∙ on _ _ l.k l.d _ (search rules) c.control_at.ensures c.turn.ensures g)

pub returns : goal.returns
returns c =
    let l = c.loop-k in
    over _ _ l.k l.d _ (search rules) ∙ sym l.invariant.1
