use Prim.Native.Nat.{ℕ, ◌+◌, ◌*◌, ◌/◌, ◌%◌}
use lib.ListN.{length-set}
use mathlib.Core.Path.{refl, ap, ◌∙◌}
use native.Mathlib.Omega.{arith}
use Rattle.coils.specs.Moved.{bytes_moved}
use Rattle.coils.proofs.Shifts.{across-code}
use Rattle.coils.proofs.Steps.{byte-moved}
use Rattle.coils.proofs.move_bytes.Goals as goal

pub loop-j-init : goal.loop-j-init
unfolding bytes_moved
loop-j-init c = (refl, refl)

pub loop-j-preserved : goal.loop-j-preserved
loop-j-preserved c =
    let l = c.loop-j in
    let a = c.args in
    let k : ℕ = a.i / 8 + l.j in (
      byte-moved a.to.now l.to a.at a.from.now a.i l.j c.across.result l.invariant.0
          (across-code a.from.now (a.i + 8 * l.j) k (a.i % 8) c.across.result (omega arith) (omega arith)
          (omega (arith, c.type_inv.from (a.i / 8 + l.j)))
          (omega (arith, c.type_inv.from (a.i / 8 + l.j + 1)))
          c.across.ensures),
      length-set l.to _ _ ∙ l.invariant.1,
    )

pub returns : goal.returns
returns c =
    let a = c.args in
    c.loop-j.invariant.0 ∙ ap (bytes_moved a.to.now a.at a.from.now a.i) (omega arith)
