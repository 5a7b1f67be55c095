use mathlib.Core.Path.{refl, ap, ◌∙◌}
use native.Mathlib.Omega.{arith}
use Rattle.ec20.specs.Table.{table, row_of}
use Rattle.ec20.specs.Words.{compute_of, sum_of}
use Rattle.ec20.specs.declared.Outcome.{Outcome}
use Rattle.instructions.proofs.Keys.{only}
use Rattle.outcomes.proofs.Arms.{held, of_two, value_fits, flags-fit, refused, flagged, alone}
use Rattle.outcomes.proofs.Numbers.{of-16}
use Rattle.outcomes.proofs.Outcomes.{sqt-two, vabs-two, vabs-flags, neg-two, neg-flags}
use Rattle.words16.proofs.act16.Goals as goal

pub store-requires : goal.store-requires
unfolding row_of table compute_of sum_of
store-requires c = (omega (arith, c.operand_at-in-33-2.ensures.1.value), value_fits _ _ _ 33 16 32768 c.in-33.is refl refl (omega arith) _ _ _ _ _ c.operand_at.ensures.0 c.load-u.type_inv c.load-u.ensures.0 c.load-u.ensures.1 (of_two _ _ 33 16 32768 _ _ _ _ _ (held c.load-u.result) c.operand_at-in-33.ensures.0 c.load-v.type_inv c.load-v.ensures.0 c.add-r.ensures))

pub flags-requires : goal.flags-requires
unfolding row_of table compute_of sum_of
flags-requires c = flags-fit _ _ _ 33 16 32768 c.in-33.is refl refl (omega arith) _ _ _ _ _ c.operand_at.ensures.0 c.load-u.type_inv c.load-u.ensures.0 c.load-u.ensures.1 (of_two _ _ 33 16 32768 _ _ _ _ _ (held c.load-u.result) c.operand_at-in-33.ensures.0 c.load-v.type_inv c.load-v.ensures.0 c.add-r.ensures)

pub store-requires-in-34 : goal.store-requires-in-34
unfolding row_of table compute_of sum_of
store-requires-in-34 c = (omega (arith, c.operand_at-in-34-2.ensures.1.value), value_fits _ _ _ 34 16 32768 c.in-34.is refl refl (omega arith) _ _ _ _ _ c.operand_at.ensures.0 c.load-u.type_inv c.load-u.ensures.0 c.load-u.ensures.1 (of_two _ _ 34 16 32768 _ _ _ _ _ (held c.load-u.result) c.operand_at-in-34.ensures.0 c.load-v-in-34.type_inv c.load-v-in-34.ensures.0 c.sub-r.ensures))

pub flags-requires-in-34 : goal.flags-requires-in-34
unfolding row_of table compute_of sum_of
flags-requires-in-34 c = flags-fit _ _ _ 34 16 32768 c.in-34.is refl refl (omega arith) _ _ _ _ _ c.operand_at.ensures.0 c.load-u.type_inv c.load-u.ensures.0 c.load-u.ensures.1 (of_two _ _ 34 16 32768 _ _ _ _ _ (held c.load-u.result) c.operand_at-in-34.ensures.0 c.load-v-in-34.type_inv c.load-v-in-34.ensures.0 c.sub-r.ensures)

pub returns-then-r-ne0 : goal.returns-then-r-ne0
unfolding row_of table compute_of sum_of
returns-then-r-ne0 c = refused _ _ _ 36 16 32768 c.in-36.is refl refl (omega arith) _ _ _ _ _ c.operand_at.ensures.0 c.load-u.type_inv c.load-u.ensures.0 c.load-u.ensures.1 (λ s t. c.sqt-r.ensures) _ c.if-r-ne0.true

pub store-requires-in-36 : goal.store-requires-in-36
unfolding row_of table compute_of sum_of
store-requires-in-36 c = (omega (arith, c.operand_at-in-36.ensures.1.value), value_fits _ _ _ 36 16 32768 c.in-36.is refl refl (omega arith) _ _ _ _ _ c.operand_at.ensures.0 c.load-u.type_inv c.load-u.ensures.0 c.load-u.ensures.1 (λ s t. c.sqt-r.ensures))

pub flags-requires-in-36 : goal.flags-requires-in-36
unfolding row_of table compute_of sum_of
flags-requires-in-36 c = flags-fit _ _ _ 36 16 32768 c.in-36.is refl refl (omega arith) _ _ _ _ _ c.operand_at.ensures.0 c.load-u.type_inv c.load-u.ensures.0 c.load-u.ensures.1 (λ s t. c.sqt-r.ensures)

pub store-requires-in-37 : goal.store-requires-in-37
unfolding row_of table compute_of sum_of
store-requires-in-37 c = (omega (arith, c.operand_at-in-37.ensures.1.value), value_fits _ _ _ 37 16 32768 c.in-37.is refl refl (omega arith) _ _ _ _ _ c.operand_at.ensures.0 c.load-u.type_inv c.load-u.ensures.0 c.load-u.ensures.1 (λ s t. c.inc-r.ensures))

pub store-requires-in-38 : goal.store-requires-in-38
unfolding row_of table compute_of sum_of
store-requires-in-38 c = (omega (arith, c.operand_at-in-38.ensures.1.value), value_fits _ _ _ 38 16 32768 c.in-38.is refl refl (omega arith) _ _ _ _ _ c.operand_at.ensures.0 c.load-u.type_inv c.load-u.ensures.0 c.load-u.ensures.1 (λ s t. c.dec-r.ensures))

pub returns-then-r-ne0-2 : goal.returns-then-r-ne0-2
unfolding row_of table compute_of sum_of
returns-then-r-ne0-2 c = refused _ _ _ 39 16 32768 c.in-39.is refl refl (omega arith) _ _ _ _ _ c.operand_at.ensures.0 c.load-u.type_inv c.load-u.ensures.0 c.load-u.ensures.1 (λ s t. c.vabs-r.ensures) _ c.if-r-ne0-2.true

pub store-requires-in-39 : goal.store-requires-in-39
unfolding row_of table compute_of sum_of
store-requires-in-39 c = (omega (arith, c.operand_at-in-39.ensures.1.value), value_fits _ _ _ 39 16 32768 c.in-39.is refl refl (omega arith) _ _ _ _ _ c.operand_at.ensures.0 c.load-u.type_inv c.load-u.ensures.0 c.load-u.ensures.1 (λ s t. c.vabs-r.ensures))

pub returns-then-r-ne0-3 : goal.returns-then-r-ne0-3
unfolding row_of table compute_of sum_of
returns-then-r-ne0-3 c = refused _ _ _ 40 16 32768 c.in-40.is refl refl (omega arith) _ _ _ _ _ c.operand_at.ensures.0 c.load-u.type_inv c.load-u.ensures.0 c.load-u.ensures.1 (λ s t. c.neg-r.ensures) _ c.if-r-ne0-3.true

pub store-requires-in-40 : goal.store-requires-in-40
unfolding row_of table compute_of sum_of
store-requires-in-40 c = (omega (arith, c.operand_at-in-40.ensures.1.value), value_fits _ _ _ 40 16 32768 c.in-40.is refl refl (omega arith) _ _ _ _ _ c.operand_at.ensures.0 c.load-u.type_inv c.load-u.ensures.0 c.load-u.ensures.1 (λ s t. c.neg-r.ensures))

pub returns-in-33 : goal.returns-in-33
unfolding row_of table compute_of sum_of
returns-in-33 c = flagged _ _ _ 33 16 32768 c.in-33.is refl refl (omega arith) _ _ _ _ _ c.operand_at.ensures.0 c.load-u.type_inv c.load-u.ensures.0 c.load-u.ensures.1 (of_two _ _ 33 16 32768 _ _ _ _ _ (held c.load-u.result) c.operand_at-in-33.ensures.0 c.load-v.type_inv c.load-v.ensures.0 c.add-r.ensures) _ c.operand_at-in-33-2.ensures.0 (ap (λ (o : Outcome). o.error) c.add-r.ensures) c.store.ensures (ap (λ (o : Outcome). o.two) c.add-r.ensures) c.flags.ensures

pub returns-in-34 : goal.returns-in-34
unfolding row_of table compute_of sum_of
returns-in-34 c = flagged _ _ _ 34 16 32768 c.in-34.is refl refl (omega arith) _ _ _ _ _ c.operand_at.ensures.0 c.load-u.type_inv c.load-u.ensures.0 c.load-u.ensures.1 (of_two _ _ 34 16 32768 _ _ _ _ _ (held c.load-u.result) c.operand_at-in-34.ensures.0 c.load-v-in-34.type_inv c.load-v-in-34.ensures.0 c.sub-r.ensures) _ c.operand_at-in-34-2.ensures.0 (ap (λ (o : Outcome). o.error) c.sub-r.ensures) c.store-in-34.ensures (ap (λ (o : Outcome). o.two) c.sub-r.ensures) c.flags-in-34.ensures

pub returns-else-r-ne0 : goal.returns-else-r-ne0
unfolding row_of table compute_of sum_of
returns-else-r-ne0 c = flagged _ _ _ 36 16 32768 c.in-36.is refl refl (omega arith) _ _ _ _ _ c.operand_at.ensures.0 c.load-u.type_inv c.load-u.ensures.0 c.load-u.ensures.1 (λ s t. c.sqt-r.ensures) _ c.operand_at-in-36.ensures.0 c.if-r-ne0.false c.store-in-36.ensures (ap (λ (o : Outcome). o.two) c.sqt-r.ensures ∙ sqt-two _) c.flags-in-36.ensures

pub returns-in-37 : goal.returns-in-37
unfolding row_of table compute_of sum_of
returns-in-37 c = alone _ _ _ 37 16 32768 c.in-37.is refl refl (omega arith) _ _ _ _ _ c.operand_at.ensures.0 c.load-u.type_inv c.load-u.ensures.0 c.load-u.ensures.1 (λ s t. c.inc-r.ensures) _ c.operand_at-in-37.ensures.0 (ap (λ (o : Outcome). o.error) c.inc-r.ensures) c.store-in-37.ensures (ap (λ (o : Outcome). o.two) c.inc-r.ensures) (ap (λ (o : Outcome). o.flags) c.inc-r.ensures)

pub returns-in-38 : goal.returns-in-38
unfolding row_of table compute_of sum_of
returns-in-38 c = alone _ _ _ 38 16 32768 c.in-38.is refl refl (omega arith) _ _ _ _ _ c.operand_at.ensures.0 c.load-u.type_inv c.load-u.ensures.0 c.load-u.ensures.1 (λ s t. c.dec-r.ensures) _ c.operand_at-in-38.ensures.0 (ap (λ (o : Outcome). o.error) c.dec-r.ensures) c.store-in-38.ensures (ap (λ (o : Outcome). o.two) c.dec-r.ensures) (ap (λ (o : Outcome). o.flags) c.dec-r.ensures)

pub returns-else-r-ne0-2 : goal.returns-else-r-ne0-2
unfolding row_of table compute_of sum_of
returns-else-r-ne0-2 c = alone _ _ _ 39 16 32768 c.in-39.is refl refl (omega arith) _ _ _ _ _ c.operand_at.ensures.0 c.load-u.type_inv c.load-u.ensures.0 c.load-u.ensures.1 (λ s t. c.vabs-r.ensures) _ c.operand_at-in-39.ensures.0 c.if-r-ne0-2.false c.store-in-39.ensures (ap (λ (o : Outcome). o.two) c.vabs-r.ensures ∙ vabs-two _ _) (ap (λ (o : Outcome). o.flags) c.vabs-r.ensures ∙ vabs-flags _ _)

pub returns-else-r-ne0-3 : goal.returns-else-r-ne0-3
unfolding row_of table compute_of sum_of
returns-else-r-ne0-3 c = alone _ _ _ 40 16 32768 c.in-40.is refl refl (omega arith) _ _ _ _ _ c.operand_at.ensures.0 c.load-u.type_inv c.load-u.ensures.0 c.load-u.ensures.1 (λ s t. c.neg-r.ensures) _ c.operand_at-in-40.ensures.0 c.if-r-ne0-3.false c.store-in-40.ensures (ap (λ (o : Outcome). o.two) c.neg-r.ensures ∙ neg-two _ _) (ap (λ (o : Outcome). o.flags) c.neg-r.ensures ∙ neg-flags _ _)

pub returns-in_default : goal.returns-in_default
unfolding row_of table compute_of sum_of
returns-in_default c = alone _ _ _ 32 16 32768 (only _ 32 8 _ c.in_default.in_default-own.rest (of-16 c.requires.word_at).0 (of-16 c.requires.word_at).1) refl refl (omega arith) _ _ _ _ _ c.operand_at.ensures.0 c.load-u.type_inv c.load-u.ensures.0 c.load-u.ensures.1 (λ s t. c.stored-r.ensures) _ c.operand_at-in_default.ensures.0 (ap (λ (o : Outcome). o.error) c.stored-r.ensures) c.store-in_default.ensures (ap (λ (o : Outcome). o.two) c.stored-r.ensures) (ap (λ (o : Outcome). o.flags) c.stored-r.ensures)
