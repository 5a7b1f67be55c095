use Rattle.rewrite.proofs.OperandLaws.{in_block, moved-below, operand-moved, operand-kept}
use borrow.Author.Rules.{rules}
use Rattle.rewrite.proofs.move_operand.Goals as goal

pub overflow_sub-o : goal.overflow_sub-o
overflow_sub-o c =
    (in_block _ _ 0 c.operand_at-o.result c.in_d.ensures c.start.ensures.value c.within.ensures c.if-in_d-within.true).0

pub put_u32-requires : goal.put_u32-requires
put_u32-requires c =
    (search rules, moved-below _ _ _ c.operand_at-o.result c.in_d.ensures c.start.ensures.value c.within.ensures c.if-in_d-within.true c.requires.1)

pub returns-then-in_d-within : goal.returns-then-in_d-within
returns-then-in_d-within c =
    operand-moved _ _ _ _ c.in_d.ensures c.start.ensures.value c.within.ensures _ _ c.operand_at-o.ensures.0 c.if-in_d-within.true c.put_u32.ensures

pub returns-else-in_d-within : goal.returns-else-in_d-within
returns-else-in_d-within c =
    operand-kept _ _ _ _ c.in_d.ensures c.start.ensures.value c.within.ensures _ _ c.operand_at-o.ensures.0 c.if-in_d-within.false (λ k. search rules)
