-- Where there are two values, as in store. Assumes nothing.
use mathlib.Core.Path.{refl}
use native.Mathlib.Omega.{arith}
use lib.ListN.{length}
use mir.Syntax.{w64}
use Rattle.ints.proofs.Parts.{said}
use Rattle.bits.proofs.Laws.{width-bounds}
use Rattle.operands.proofs.Steps.{in_table, into_d, follows, second-stored}
use Rattle.operands.proofs.second.Goals as goal

pub returns-then-n-d : goal.returns-then-n-d
returns-then-n-d c =
    let n = c.next-n.result in
    let a = c.args in
    let s = said w64 {z = a.r.second} (omega (arith, c.requires.1, width-bounds a.w)) refl in
    second-stored a.w a.o a.r _ _ _ _ _ _ c.if-r-ne1.false (follows a.w a.o c.next-n.ensures c.requires.2) s (λ x sm t tv. into_d _ _ _ _ _ _ _ _ _ _ (in_table n.kind n.value (length a.d.now) c.if-n-d.true).0 c.put_in.ensures)
