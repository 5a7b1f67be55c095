use native.Mathlib.Omega.{arith}
use Prim.Native.Nat.{◌<◌}
use Rattle.labels.proofs.Bodies.{filled_none, home-low, filled_more, filled-all}
use Rattle.labels.proofs.homes.Goals as goal

pub loop-k-init : goal.loop-k-init
loop-k-init c = filled_none _

pub home_after-home-requires : goal.home_after-home-requires
home_after-home-requires c =
    let l = c.loop-k in
    let b : l.k < 2000 = omega (arith, c.loop-k-test.true, c.requires.most) in record { k_bound = b; home_bound = omega (arith, home-low _ _ _ _ l.invariant) }

pub loop-k-preserved : goal.loop-k-preserved
loop-k-preserved c =
    let l = c.loop-k in
    let b : l.k < 2000 = omega (arith, c.loop-k-test.true, c.requires.most) in
    filled_more _ _ _ _ l.invariant b c.control_at.ensures c.home_after-home.ensures

pub returns : goal.returns
returns c = filled-all _ _ _ _ _ c.loop-k-test.false c.loop-k.invariant
