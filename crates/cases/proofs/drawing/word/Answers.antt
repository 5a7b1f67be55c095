-- By the rule. Assumes nothing.
use Rattle.std.proofs.Common.{ℕ, ◌+◌, ◌%◌, ap, eq-eqb, ne_eqb}
use Rattle.cases.specs.Drawn.{word_of}
use Rattle.cases.proofs.drawing.word.Goals as goal

pub returns-then-rule-eq3 : goal.returns-then-rule-eq3
unfolding word_of
returns-then-rule-eq3 c = rw (eq-eqb _ _ c.if-rule-eq3.true) (ap (λ (x : ℕ). (x + 65532) % 65536) c.from.ensures)

pub returns : goal.returns
unfolding word_of
returns c = rw (ne_eqb _ _ c.if-rule-eq3.false)
