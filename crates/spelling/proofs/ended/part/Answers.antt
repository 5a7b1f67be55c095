-- `spelling::part` meets its contract. Assumes nothing.
use mathlib.Core.Path.{◌∙◌}
use Rattle.spelling.proofs.Parts.{part-misspelt, part-unended, part-spelt}
use Rattle.spelling.proofs.ended.part.Goals as goal

pub returns-in_err-d-clause-value : goal.returns-in_err-d-clause-value
returns-in_err-d-clause-value c = c.from_residual.ensures ∙ part-misspelt _ _ _ _ _ c.number.ensures.value c.in_err-d.was

pub returns-then-byte_in-end-clause-value : goal.returns-then-byte_in-end-clause-value
returns-then-byte_in-end-clause-value c = part-unended _ _ _ _ _ c.number.ensures.value _ _ _ c.in_ok-d.was c.byte_in.ensures c.if-byte_in-end.true

pub returns-clause-value : goal.returns-clause-value
returns-clause-value c = part-spelt _ _ _ _ _ c.number.ensures.value _ _ _ c.in_ok-d.was c.byte_in.ensures c.if-byte_in-end.false
