-- By the kind. Assumes nothing.
use Rattle.operands.proofs.Steps.{bit-y, bit-m, bit-none}
use Rattle.operands.proofs.store_bit.Goals as goal

pub returns-in-3 : goal.returns-in-3
returns-in-3 c = λ x sm t d tv. bit-y _ _ _ _ _ _ _ _ _ c.in-3.is c.put_bit.ensures

pub returns-in-4 : goal.returns-in-4
returns-in-4 c = λ x sm t d tv. bit-m _ _ _ _ _ _ _ _ _ c.in-4.is c.put_bit-in-4.ensures

pub returns-in_default : goal.returns-in_default
returns-in_default c = λ x sm t d tv. bit-none _ _ _ _ _ _ _ _ _ c.in_default.in_default-own.rest.0.1 c.in_default.in_default-own.rest.1
