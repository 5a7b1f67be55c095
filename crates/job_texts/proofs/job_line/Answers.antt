-- `job_texts::job_line` meets its contract. Assumes nothing.
use mathlib.Core.Path.{◌∙◌}
use Rattle.job_texts.proofs.Parts.{start-misspelt, length-misspelt, place-misspelt, job-spelt}
use Rattle.job_texts.proofs.job_line.Goals as goal

pub returns-in_err-start-clause-value : goal.returns-in_err-start-clause-value
returns-in_err-start-clause-value c = c.from_residual.ensures ∙ start-misspelt _ _ _ c.part.ensures.value c.in_err-start.was

pub returns-in_err-length-clause-value : goal.returns-in_err-length-clause-value
returns-in_err-length-clause-value c =
    c.from_residual-in_err-length.ensures
    ∙ length-misspelt _ _ _ c.part.ensures.value _ _ c.in_ok-start.was _ c.part-2.ensures.value c.in_err-length.was

pub returns-in_err-place-clause-value : goal.returns-in_err-place-clause-value
returns-in_err-place-clause-value c =
    c.from_residual-in_err-place.ensures
    ∙ place-misspelt _ _ _ c.part.ensures.value _ _ c.in_ok-start.was _ c.part-2.ensures.value _ _ c.in_ok-length.was _ c.part-3.ensures.value c.in_err-place.was

pub returns-clause-value : goal.returns-clause-value
returns-clause-value c =
    job-spelt _ _ _ c.part.ensures.value _ _ c.in_ok-start.was _ c.part-2.ensures.value _ _ c.in_ok-length.was _ c.part-3.ensures.value _ _ c.in_ok-place.was
