use mathlib.Core.Path.{refl, sym, subst, ◌∙◌}
use native.Mathlib.Omega.{arith}
use borrow.Author.Tests.{ltb-true, lt-ltb, ne_eqb}
use Rattle.ec20.proofs.Tests.{differ}
use Rattle.spelling.proofs.Laws.{digits-fit, digits-next, digits_more, number-empty, number-zero, number-over, number-spelt, number_in}
use Rattle.spelling.specs.Bounds.{NumberIn}
use Rattle.units.specs.Spelling.{digits_of}
use Rattle.spelling.proofs.number.Goals.{then-d-from-via-then-d-from, then-d-from-via-else-d-from+then-d-from-gt1, then-zero, else-zero, then-d-from-via-else-d-from+else-d-from-gt1+then-most-d}
use Rattle.spelling.proofs.number.Goals as goal

pub loop-k-init : goal.loop-k-init
unfolding digits_of
loop-k-init c = refl

pub digit-d-requires : goal.digit-d-requires
digit-d-requires c = rw c.loop-k.invariant (digits-fit _ _ _ (omega arith))

pub loop-k-preserved : goal.loop-k-preserved
loop-k-preserved c = digits_more _ _ _ _ _ c.loop-k.invariant c.digit-d.ensures

pub overflow_sub-d : goal.overflow_sub-d
overflow_sub-d c = rw c.loop-k.invariant (digits-next _ _ _).0

pub returns-then-d-from : goal.returns-then-d-from
returns-then-d-from c =
    let l = c.loop-k in
    elim c.then-d-from.branch [
      | then-d-from-via-then-d-from w ↦
          record { value = number-empty _ _ _ _ _ _ l.auto.k-end c.loop-k-test.false l.invariant c.byte_in-zero.ensures w.if-d-from.true; number_in = tt }
      | then-d-from-via-else-d-from+then-d-from-gt1 w ↦
          elim w.if-zero.branch [
            | then-zero v ↦
                record {
                  value = number-zero _ _ _ _ _ _ l.auto.k-end c.loop-k-test.false l.invariant c.byte_in-zero.ensures v.if-zero.true
                      (ltb-true _ _ (sym v.value-is ∙ w.if-d-from-gt1.true));
                  number_in = tt;
                }
            | else-zero v ↦ differ (sym w.if-d-from-gt1.true ∙ v.value-is ∙ ne_eqb _ _ v.if-zero.false)
          ]
      | then-d-from-via-else-d-from+else-d-from-gt1+then-most-d w ↦
          record { value = number-over _ _ _ _ _ _ l.auto.k-end c.loop-k-test.false l.invariant c.byte_in-zero.ensures w.if-most-d.true; number_in = tt }
    ]

pub returns : goal.returns
returns c =
    let l = c.loop-k in
    let e = number-spelt _ _ _ _ _ _ l.auto.k-end c.loop-k-test.false l.invariant c.byte_in-zero.ensures c.if-d-from.false
    (λ h g. elim c.if-zero.branch [
      | then-zero v ↦ differ (sym (lt-ltb _ _ g) ∙ sym v.value-is ∙ c.if-d-from-gt1.false)
      | else-zero v ↦ v.if-zero.false h
    ]) c.if-most-d.false in
    record { value = e; number_in = subst (NumberIn _ _) (sym e) (number_in _ _ _) }
