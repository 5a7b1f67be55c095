use mathlib.Core.Path.{◌≡◌, refl, sym, ap, ◌∙◌}
use Prim.Native.Nat.{ℕ, ◌+◌, ◌*◌}
use native.Mathlib.Omega.{arith}
use lib.Seq.{set_out}
use Rattle.ec20.specs.Bits.{spread}
use Rattle.bits.proofs.Steps.{put_on}
use Rattle.bits.proofs.put_fewer.Goals as goal
use Rattle.bits.proofs.put_fewer.Goals.{then-at-i, else-at-i}

pub loop-i-init : goal.loop-i-init
unfolding spread
loop-i-init c = refl

pub loop-i-preserved : goal.loop-i-preserved
loop-i-preserved c =
    let a = c.args in
    let l = c.loop-i in
    let put = put_on a.bits.now a.at c.requires.1 l.i a.v l.invariant in
    let e : spread a.bits.now (8 * a.at) (8 * l.i + 8) a.v ≡ spread a.bits.now (8 * a.at) (8 * (l.i + 1)) a.v = ap (λ (n : ℕ). spread a.bits.now (8 * a.at) n a.v) (omega arith) in
    elim c.if-at-i.branch [
      | then-at-i w ↦ w.bits-is ∙ put ∙ e
      | else-at-i w ↦ w.bits-is ∙ sym (set_out l.bits (a.at + l.i) _ (omega (arith, w.if-at-i.false, l.auto.bits))) ∙ put ∙ e
    ]
