use mathlib.Core.Path.{◌≡◌, refl, ap, ◌∙◌}
use Prim.Native.Nat.{◌+◌, ◌*◌}
use native.Mathlib.Omega.{arith}
use Rattle.ec20.specs.Bits.{packed}
use Rattle.bits.proofs.Steps.{read_more, read_none}
use Rattle.bits.proofs.fewer.Goals as goal
use Rattle.bits.proofs.fewer.Goals.{then-at-i, else-at-i}

pub loop-i-init : goal.loop-i-init
unfolding packed
loop-i-init c = refl

pub loop-i-preserved : goal.loop-i-preserved
loop-i-preserved c =
    let a = c.args in
    let l = c.loop-i in
    let e : packed a.bits.now (8 * a.at) (8 * l.i + 8) ≡ packed a.bits.now (8 * a.at) (8 * (l.i + 1)) = ap (packed a.bits.now (8 * a.at)) (omega arith) in
    elim c.if-at-i.branch [
      | then-at-i w ↦ w.v-is ∙ read_more a.bits.now a.at (λ j. omega (arith, c.type_inv.bits j)) l.i (omega arith) l.invariant ∙ e
      | else-at-i w ↦ w.v-is ∙ read_none a.bits.now a.at l.i (omega (arith, w.if-at-i.false)) l.invariant ∙ e
    ]
