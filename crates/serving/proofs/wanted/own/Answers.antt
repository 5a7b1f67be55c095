-- What is read as a number, or 0. Assumes nothing.
use Rattle.std.proofs.Common.{ℕ, ap, ◌∙◌}
use Rattle.std.specs.Prelude.{Option}
use Rattle.std.specs.Option.{unwrap_or}
use Rattle.calls.specs.Numbers.{number_in}
use Rattle.serving.proofs.Numbers.{number-or_zero}
use Rattle.serving.proofs.wanted.own.Goals as goal

pub returns : goal.returns
returns c =
    c.unwrap_or.ensures
    ∙ ap (λ (o : Option ℕ). unwrap_or o 0) (c.parsed.ensures ∙ ap number_in c.word.ensures)
    ∙ number-or_zero _
