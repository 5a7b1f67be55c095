use borrow.Author.Tests.{lt-ltb, le-ltb}
use native.Mathlib.Omega.{arith}
use mathlib.Core.Path.{◌≡◌, refl, ap, sym, ◌∙◌}
use Prim.Native.Nat.{◌+◌, ◌*◌}
use Rattle.ec20.specs.Code.{code_of}
use Rattle.ec20.specs.Control.{control_of}
use Rattle.ec20.specs.File.{record_from, operand_at, u32_at}
use Rattle.decode.proofs.control_at.Goals as goal

pub returns-then-k-count : goal.returns-then-k-count
unfolding code_of record_from operand_at
returns-then-k-count c =
    let a = c.args in
    let i = a.first + 20 * a.k in
    rw (lt-ltb _ _ c.if-k-count.true)
    (c.control_by.ensures (record_from a.f.now i) (sym c.wide.ensures.0)
    (ap (u32_at a.f.now) (let e : i + 2 + 2 ≡ i + 4 = omega arith in e) ∙ sym c.u32_at.ensures.0))

pub returns : goal.returns
unfolding code_of control_of
returns c = rw (le-ltb _ _ c.if-k-count.false) refl
