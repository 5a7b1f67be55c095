-- CJ with flow goes to its label's place, without it to the next record.
use mathlib.Core.Path.{sym, ◌∙◌}
use Rattle.jumps.proofs.Laws.{jump-on, jump-off}
use Rattle.jumps.proofs.jump.Goals as goal

pub returns-then-is_on : goal.returns-then-is_on
returns-then-is_on c = λ p l h. jump-on p l _ _ _ (sym c.is_on.ensures ∙ c.if-is_on.true) c.go_to.ensures h

pub returns : goal.returns
returns c = λ p l h. jump-off p l _ _ (sym c.is_on.ensures ∙ c.if-is_on.false) c.go_to-2.ensures
