-- `unit_texts::unit_line` meets its contract. Assumes nothing.
use mathlib.Core.Path.{◌∙◌}
use Rattle.unit_texts.proofs.Lines.{unit-misspelt, rest-misspelt, unit-spelt, unit-in}
use Rattle.unit_texts.proofs.unit_line.Goals as goal

pub returns-in_err-unit-clause-value : goal.returns-in_err-unit-clause-value
returns-in_err-unit-clause-value c = c.from_residual.ensures ∙ unit-misspelt _ _ _ c.part.ensures.value c.in_err-unit.was

pub returns-in_err-line-clause-value : goal.returns-in_err-line-clause-value
returns-in_err-line-clause-value c =
    c.from_residual-in_err-line.ensures ∙ rest-misspelt _ _ _ c.part.ensures.value _ _ c.in_ok-unit.was _ c.line.ensures.value c.in_err-line.was

pub returns : goal.returns
returns c =
    record {
      value = unit-spelt _ _ _ c.part.ensures.value _ _ c.in_ok-unit.was _ c.line.ensures.value _ _ _ c.in_ok-line.was;
      unit_in = unit-in _ _ _ c.part.ensures.value _ _ c.in_ok-unit.was _ c.line.ensures.value _ _ _ c.in_ok-line.was c.part.ensures.part_in c.line.ensures.line_in;
    }
