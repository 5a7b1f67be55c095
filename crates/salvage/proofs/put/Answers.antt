use mathlib.Core.Path.{refl, sym, ◌∙◌}
use native.Mathlib.Omega.{arith}
use lib.ListN.{length-set}
use Rattle.ec20.proofs.BufferLaws.{over_none}
use Rattle.salvage.proofs.Copied.{copied_more}
use Rattle.salvage.proofs.put.Goals as goal

pub loop-k-init : goal.loop-k-init
loop-k-init c = (sym (over_none _ _), refl)

pub loop-k-preserved : goal.loop-k-preserved
loop-k-preserved c =
    let a = c.args in
    let l = c.loop-k in
    (copied_more a.at a.s.now a.out.now l.out l.k (omega arith) (omega arith) l.invariant.0, length-set l.out _ _ ∙ l.invariant.1)
