use Prim.Native.Nat.{◌-◌}
use mathlib.Core.Path.{refl, ap, ◌∙◌}
use lib.ListN.{length, drop, length-drop}
use Rattle.std.proofs.lemmas.List.{take_all}
use Rattle.modbus.specs.Crc.{crc_from}
use native.Mathlib.Omega.{arith}
use Rattle.crc.proofs.Turns.{turn-eight}
use Rattle.crc.proofs.all.Goals as goal

pub loop-i-init : goal.loop-i-init
loop-i-init c = (omega arith, omega arith, refl)

pub overflow_sub-s : goal.overflow_sub-s
overflow_sub-s c = omega arith

pub octet-requires : goal.octet-requires
octet-requires c = omega arith

pub overflow_add-i : goal.overflow_add-i
overflow_add-i c = omega arith

pub loop-i-smaller : goal.loop-i-smaller
loop-i-smaller c = omega arith

pub loop-i-preserved : goal.loop-i-preserved
loop-i-preserved c =
    (omega arith, c.fold-c.ensures.1, turn-eight _ _ _ _ _ _ c.octet.ensures c.fold-c.ensures.0 c.loop-i.invariant.2)

pub rest-requires : goal.rest-requires
rest-requires c = c.loop-i.invariant.1

pub returns : goal.returns
returns c =
    let s = c.args.s.now in
    let i = c.loop-i.i in
    (c.rest.ensures.0 ∙ ap (crc_from c.loop-i.c) (take_all (length s - i) (drop i s) (simp length-drop (omega arith))) ∙ c.loop-i.invariant.2, c.rest.ensures.1)
