use mathlib.Core.Path.{refl}
use native.Mathlib.Omega.{arith}
use lib.ListN.{length-set}
use Rattle.turns.proofs.Inputs.{state-none, drawn-none, state-more, drawn-more, drawn-all}
use Rattle.turns.proofs.images.draw.Goals as goal

pub loop-i-init : goal.loop-i-init
loop-i-init c = (state-none _, drawn-none _ _, drawn-none _ _, refl, refl)

pub loop-i-preserved : goal.loop-i-preserved
loop-i-preserved c =
    let inv = c.loop-i.invariant in
    let s = state-more _ _ _ _ inv.0 c.turned-s.ensures in
    (s, drawn-more _ _ _ _ _ inv.1 s (omega arith), drawn-more _ _ _ _ _ inv.2 s (omega arith), simp length-set inv.3, simp length-set inv.4)

pub shape_of-a : goal.shape_of-a
shape_of-a c = c.loop-i.invariant.3

pub shape_of-b : goal.shape_of-b
shape_of-b c = c.loop-i.invariant.4

pub returns : goal.returns
returns c =
    let inv = c.loop-i.invariant in
    let all = drawn-all c.loop-i.i _ _ _ (omega arith) inv.0 inv.1 inv.2 in
    record { value = all.0; a_after = all.1.0; b_after = all.1.1 }
