-- `spelling::digit` meets its contract. Assumes nothing.
use mathlib.Core.Path.{sym, ◌∙◌}
use Rattle.spelling.proofs.Laws.{digit-none, digit-more}
use Rattle.spelling.proofs.digit.Goals as goal

pub returns-then-not-is_ascii_digit : goal.returns-then-not-is_ascii_digit
returns-then-not-is_ascii_digit c = digit-none _ _ _ c.byte_in-b.ensures (sym c.is_ascii_digit.ensures.value ∙ c.if-not-is_ascii_digit.true)

pub returns : goal.returns
returns c = rw c.from.ensures (digit-more _ _ _ c.byte_in-b.ensures (sym c.is_ascii_digit.ensures.value ∙ c.if-not-is_ascii_digit.false))
