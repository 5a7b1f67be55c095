use borrow.Author.Rules.{rules}
use mathlib.Core.Path.{sym, ap, ◌∙◌}
use Rattle.ec20.specs.Basics.{refused_at}
use Rattle.labels.proofs.Laws.{none}
use Rattle.labels.proofs.first_unlabelled.Goals as goal

pub returns-then-from-count : goal.returns-then-from-count
returns-then-from-count c = c.first_from.ensures ∙ sym c.first_labelled-from.ensures

pub returns : goal.returns
returns c =
    ap (refused_at 7) (none _ c.first_labelled-from.result _ (search rules)) ∙ sym c.first_labelled-from.ensures
