-- The first lines of both texts, and what `line` ensures. Assumes nothing.
use Rattle.longer.proofs.Laws.{first-misspelt, second-misspelt, second-longer, first-longer}
use Rattle.longer.proofs.which.Goals as goal

pub returns-in_err-one-clause-text_value : goal.returns-in_err-one-clause-text_value
returns-in_err-one-clause-text_value c = first-misspelt _ _ _ c.line.ensures.value _ c.from_residual.ensures c.in_err-one.was

pub returns-in_err-two-clause-text_value : goal.returns-in_err-two-clause-text_value
returns-in_err-two-clause-text_value c =
    second-misspelt _ _ _ c.line.ensures.value _ _ _ c.in_ok-one.was _ c.line-2.ensures.value _ c.from_residual-in_err-two.ensures c.in_err-two.was

pub returns-then-one-two-clause-text_value : goal.returns-then-one-two-clause-text_value
returns-then-one-two-clause-text_value c =
    second-longer _ _ _ c.line.ensures.value _ _ _ c.in_ok-one.was _ c.line-2.ensures.value _ _ _ c.in_ok-two.was c.if-one-two.true

pub returns-else-one-two-clause-text_value : goal.returns-else-one-two-clause-text_value
returns-else-one-two-clause-text_value c =
    first-longer _ _ _ c.line.ensures.value _ _ _ c.in_ok-one.was _ c.line-2.ensures.value _ _ _ c.in_ok-two.was c.if-one-two.false
