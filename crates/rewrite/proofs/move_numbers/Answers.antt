use mathlib.Core.Path.{refl, ◌∙◌}
use native.Mathlib.Omega.{arith}
use Rattle.rewrite.proofs.RecordsLaws.{after_none, after_more}
use Rattle.rewrite.proofs.move_numbers.Goals as goal

pub loop-k-init : goal.loop-k-init
loop-k-init c = (after_none _ _ _ _, refl)

pub move_record-requires : goal.move_record-requires
move_record-requires c = (omega (arith, c.requires.0.whole, c.loop-k.invariant.1), c.requires.1)

pub loop-k-preserved : goal.loop-k-preserved
loop-k-preserved c =
    let a = c.args in (
      after_more _ _ a.f.now a.first c.loop-k.k (omega (arith, c.requires.0.whole)) c.loop-k.invariant.0 c.move_record.ensures,
      c.move_record.auto.f ∙ c.loop-k.invariant.1,
    )
