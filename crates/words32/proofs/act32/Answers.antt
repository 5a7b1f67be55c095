use mathlib.Core.Path.{refl, ap, ◌∙◌}
use native.Mathlib.Omega.{arith}
use Rattle.ec20.specs.Table.{table, row_of}
use Rattle.ec20.specs.Words.{compute_of, sum_of}
use Rattle.ec20.specs.declared.Outcome.{Outcome}
use Rattle.instructions.proofs.Keys.{only}
use Rattle.outcomes.proofs.Arms.{held, of_two, value_fits, flags-fit, refused, flagged, alone}
use Rattle.outcomes.proofs.Numbers.{of-32}
use Rattle.outcomes.proofs.Outcomes.{sqt-two}
use Rattle.words32.proofs.act32.Goals as goal

pub store-requires : goal.store-requires
unfolding row_of table compute_of sum_of
store-requires c = (omega (arith, c.operand_at-in-49-2.ensures.1.value), value_fits _ _ _ 49 32 2147483648 c.in-49.is refl refl (omega arith) _ _ _ _ _ c.operand_at.ensures.0 c.load-u.type_inv c.load-u.ensures.0 c.load-u.ensures.1 (of_two _ _ 49 32 2147483648 _ _ _ _ _ (held c.load-u.result) c.operand_at-in-49.ensures.0 c.load-v.type_inv c.load-v.ensures.0 c.add-r.ensures))

pub flags-requires : goal.flags-requires
unfolding row_of table compute_of sum_of
flags-requires c = flags-fit _ _ _ 49 32 2147483648 c.in-49.is refl refl (omega arith) _ _ _ _ _ c.operand_at.ensures.0 c.load-u.type_inv c.load-u.ensures.0 c.load-u.ensures.1 (of_two _ _ 49 32 2147483648 _ _ _ _ _ (held c.load-u.result) c.operand_at-in-49.ensures.0 c.load-v.type_inv c.load-v.ensures.0 c.add-r.ensures)

pub store-requires-in-50 : goal.store-requires-in-50
unfolding row_of table compute_of sum_of
store-requires-in-50 c = (omega (arith, c.operand_at-in-50-2.ensures.1.value), value_fits _ _ _ 50 32 2147483648 c.in-50.is refl refl (omega arith) _ _ _ _ _ c.operand_at.ensures.0 c.load-u.type_inv c.load-u.ensures.0 c.load-u.ensures.1 (of_two _ _ 50 32 2147483648 _ _ _ _ _ (held c.load-u.result) c.operand_at-in-50.ensures.0 c.load-v-in-50.type_inv c.load-v-in-50.ensures.0 c.sub-r.ensures))

pub flags-requires-in-50 : goal.flags-requires-in-50
unfolding row_of table compute_of sum_of
flags-requires-in-50 c = flags-fit _ _ _ 50 32 2147483648 c.in-50.is refl refl (omega arith) _ _ _ _ _ c.operand_at.ensures.0 c.load-u.type_inv c.load-u.ensures.0 c.load-u.ensures.1 (of_two _ _ 50 32 2147483648 _ _ _ _ _ (held c.load-u.result) c.operand_at-in-50.ensures.0 c.load-v-in-50.type_inv c.load-v-in-50.ensures.0 c.sub-r.ensures)

pub store-requires-in-51 : goal.store-requires-in-51
unfolding row_of table compute_of sum_of
store-requires-in-51 c = (omega (arith, c.operand_at-in-51-2.ensures.1.value), value_fits _ _ _ 51 32 2147483648 c.in-51.is refl refl (omega arith) _ _ _ _ _ c.operand_at.ensures.0 c.load-u.type_inv c.load-u.ensures.0 c.load-u.ensures.1 (of_two _ _ 51 32 2147483648 _ _ _ _ _ (held c.load-u.result) c.operand_at-in-51.ensures.0 c.load-v-in-51.type_inv c.load-v-in-51.ensures.0 c.mul-r.ensures))

pub returns-then-r-ne0 : goal.returns-then-r-ne0
unfolding row_of table compute_of sum_of
returns-then-r-ne0 c = refused _ _ _ 53 32 2147483648 c.in-53.is refl refl (omega arith) _ _ _ _ _ c.operand_at.ensures.0 c.load-u.type_inv c.load-u.ensures.0 c.load-u.ensures.1 (λ s t. c.sqt-r.ensures) _ c.if-r-ne0.true

pub store-requires-in-53 : goal.store-requires-in-53
unfolding row_of table compute_of sum_of
store-requires-in-53 c = (omega (arith, c.operand_at-in-53.ensures.1.value), value_fits _ _ _ 53 32 2147483648 c.in-53.is refl refl (omega arith) _ _ _ _ _ c.operand_at.ensures.0 c.load-u.type_inv c.load-u.ensures.0 c.load-u.ensures.1 (λ s t. c.sqt-r.ensures))

pub flags-requires-in-53 : goal.flags-requires-in-53
unfolding row_of table compute_of sum_of
flags-requires-in-53 c = flags-fit _ _ _ 53 32 2147483648 c.in-53.is refl refl (omega arith) _ _ _ _ _ c.operand_at.ensures.0 c.load-u.type_inv c.load-u.ensures.0 c.load-u.ensures.1 (λ s t. c.sqt-r.ensures)

pub store-requires-in-54 : goal.store-requires-in-54
unfolding row_of table compute_of sum_of
store-requires-in-54 c = (omega (arith, c.operand_at-in-54.ensures.1.value), value_fits _ _ _ 54 32 2147483648 c.in-54.is refl refl (omega arith) _ _ _ _ _ c.operand_at.ensures.0 c.load-u.type_inv c.load-u.ensures.0 c.load-u.ensures.1 (λ s t. c.inc-r.ensures))

pub store-requires-in-55 : goal.store-requires-in-55
unfolding row_of table compute_of sum_of
store-requires-in-55 c = (omega (arith, c.operand_at-in-55.ensures.1.value), value_fits _ _ _ 55 32 2147483648 c.in-55.is refl refl (omega arith) _ _ _ _ _ c.operand_at.ensures.0 c.load-u.type_inv c.load-u.ensures.0 c.load-u.ensures.1 (λ s t. c.dec-r.ensures))

pub returns-in-49 : goal.returns-in-49
unfolding row_of table compute_of sum_of
returns-in-49 c = flagged _ _ _ 49 32 2147483648 c.in-49.is refl refl (omega arith) _ _ _ _ _ c.operand_at.ensures.0 c.load-u.type_inv c.load-u.ensures.0 c.load-u.ensures.1 (of_two _ _ 49 32 2147483648 _ _ _ _ _ (held c.load-u.result) c.operand_at-in-49.ensures.0 c.load-v.type_inv c.load-v.ensures.0 c.add-r.ensures) _ c.operand_at-in-49-2.ensures.0 (ap (λ (o : Outcome). o.error) c.add-r.ensures) c.store.ensures (ap (λ (o : Outcome). o.two) c.add-r.ensures) c.flags.ensures

pub returns-in-50 : goal.returns-in-50
unfolding row_of table compute_of sum_of
returns-in-50 c = flagged _ _ _ 50 32 2147483648 c.in-50.is refl refl (omega arith) _ _ _ _ _ c.operand_at.ensures.0 c.load-u.type_inv c.load-u.ensures.0 c.load-u.ensures.1 (of_two _ _ 50 32 2147483648 _ _ _ _ _ (held c.load-u.result) c.operand_at-in-50.ensures.0 c.load-v-in-50.type_inv c.load-v-in-50.ensures.0 c.sub-r.ensures) _ c.operand_at-in-50-2.ensures.0 (ap (λ (o : Outcome). o.error) c.sub-r.ensures) c.store-in-50.ensures (ap (λ (o : Outcome). o.two) c.sub-r.ensures) c.flags-in-50.ensures

pub returns-in-51 : goal.returns-in-51
unfolding row_of table compute_of sum_of
returns-in-51 c = alone _ _ _ 51 32 2147483648 c.in-51.is refl refl (omega arith) _ _ _ _ _ c.operand_at.ensures.0 c.load-u.type_inv c.load-u.ensures.0 c.load-u.ensures.1 (of_two _ _ 51 32 2147483648 _ _ _ _ _ (held c.load-u.result) c.operand_at-in-51.ensures.0 c.load-v-in-51.type_inv c.load-v-in-51.ensures.0 c.mul-r.ensures) _ c.operand_at-in-51-2.ensures.0 (ap (λ (o : Outcome). o.error) c.mul-r.ensures) c.store-in-51.ensures (ap (λ (o : Outcome). o.two) c.mul-r.ensures) (ap (λ (o : Outcome). o.flags) c.mul-r.ensures)

pub returns-else-r-ne0 : goal.returns-else-r-ne0
unfolding row_of table compute_of sum_of
returns-else-r-ne0 c = flagged _ _ _ 53 32 2147483648 c.in-53.is refl refl (omega arith) _ _ _ _ _ c.operand_at.ensures.0 c.load-u.type_inv c.load-u.ensures.0 c.load-u.ensures.1 (λ s t. c.sqt-r.ensures) _ c.operand_at-in-53.ensures.0 c.if-r-ne0.false c.store-in-53.ensures (ap (λ (o : Outcome). o.two) c.sqt-r.ensures ∙ sqt-two _) c.flags-in-53.ensures

pub returns-in-54 : goal.returns-in-54
unfolding row_of table compute_of sum_of
returns-in-54 c = alone _ _ _ 54 32 2147483648 c.in-54.is refl refl (omega arith) _ _ _ _ _ c.operand_at.ensures.0 c.load-u.type_inv c.load-u.ensures.0 c.load-u.ensures.1 (λ s t. c.inc-r.ensures) _ c.operand_at-in-54.ensures.0 (ap (λ (o : Outcome). o.error) c.inc-r.ensures) c.store-in-54.ensures (ap (λ (o : Outcome). o.two) c.inc-r.ensures) (ap (λ (o : Outcome). o.flags) c.inc-r.ensures)

pub returns-in-55 : goal.returns-in-55
unfolding row_of table compute_of sum_of
returns-in-55 c = alone _ _ _ 55 32 2147483648 c.in-55.is refl refl (omega arith) _ _ _ _ _ c.operand_at.ensures.0 c.load-u.type_inv c.load-u.ensures.0 c.load-u.ensures.1 (λ s t. c.dec-r.ensures) _ c.operand_at-in-55.ensures.0 (ap (λ (o : Outcome). o.error) c.dec-r.ensures) c.store-in-55.ensures (ap (λ (o : Outcome). o.two) c.dec-r.ensures) (ap (λ (o : Outcome). o.flags) c.dec-r.ensures)

pub returns-in_default : goal.returns-in_default
unfolding row_of table compute_of sum_of
returns-in_default c = alone _ _ _ 48 32 2147483648 (only _ 48 7 _ c.in_default.in_default-own.rest (of-32 c.requires.word_at).0 (of-32 c.requires.word_at).1) refl refl (omega arith) _ _ _ _ _ c.operand_at.ensures.0 c.load-u.type_inv c.load-u.ensures.0 c.load-u.ensures.1 (λ s t. c.stored-r.ensures) _ c.operand_at-in_default.ensures.0 (ap (λ (o : Outcome). o.error) c.stored-r.ensures) c.store-in_default.ensures (ap (λ (o : Outcome). o.two) c.stored-r.ensures) (ap (λ (o : Outcome). o.flags) c.stored-r.ensures)
