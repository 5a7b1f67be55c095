use Prim.Native.Nat.{◌+◌, ◌-◌}
use mathlib.Core.Path.{◌≡◌}
use native.Mathlib.Omega.{arith}
use Rattle.labels.proofs.Table.{filled_none, filled_more, filled-same, filled-all}
use Rattle.labels.proofs.places.Goals as goal

pub loop-j-init : goal.loop-j-init
loop-j-init c = filled_none _ _

pub loop-j-preserved-then-s-lt128 : goal.loop-j-preserved-then-s-lt128
loop-j-preserved-then-s-lt128 c =
    let k = c.loop-j.j in
    let before : k - 1 + 1 ≡ k = omega arith in
    rw before (filled_more _ _ k _ _ _ c.loop-j.invariant before c.slot-s.ensures (omega arith))

pub loop-j-preserved : goal.loop-j-preserved
loop-j-preserved c = filled-same _ _ c.loop-j.j _ _ _ c.loop-j.invariant (omega arith) c.slot-s.ensures (omega arith)

pub returns : goal.returns
returns c = filled-all _ _ _ _ c.loop-j.invariant (omega arith)
