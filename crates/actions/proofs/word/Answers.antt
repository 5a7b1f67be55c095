use mathlib.Core.Path.{sym, ◌∙◌}
use Rattle.actions.proofs.Laws.{word-off, word_on}
use Rattle.outcomes.proofs.Numbers.{not_16}
use Rattle.actions.proofs.word.Goals as goal

pub returns-then-not-is_on : goal.returns-then-not-is_on
returns-then-not-is_on c = λ b o. word-off _ _ _ _ _ _ _ (sym c.is_on.ensures ∙ c.if-not-is_on.true) c.act.ensures

pub returns-then-width_at-eq16 : goal.returns-then-width_at-eq16
returns-then-width_at-eq16 c = λ b o. word_on _ _ _ _ _ _ _ (sym c.is_on.ensures ∙ c.if-not-is_on.false) (c.act16-e.ensures b) c.settled.ensures

pub act32-e-requires : goal.act32-e-requires
act32-e-requires c = record { word_at = not_16 c.requires.word_at.0 (λ e. c.if-width_at-eq16.false (c.width_at.ensures ∙ e)) }

pub returns : goal.returns
returns c = λ b o. word_on _ _ _ _ _ _ _ (sym c.is_on.ensures ∙ c.if-not-is_on.false) (c.act32-e.ensures b) c.settled-2.ensures
