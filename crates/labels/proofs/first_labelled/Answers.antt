use borrow.Author.Rules.{rules}
use mathlib.Core.Path.{refl, sym, ap, ◌∙◌}
use native.Mathlib.Nat.{sub-zero}
use native.Mathlib.Omega.{arith}
use Rattle.ec20.specs.Basics.{refused_at}
use Rattle.labels.proofs.Laws.{fails, none}
use Rattle.labels.proofs.first_labelled.Goals as goal

pub loop-k-init : goal.loop-k-init
loop-k-init c = rw sub-zero

pub returns-then-labelled : goal.returns-then-labelled
returns-then-labelled c = c.loop-k.invariant

pub loop-k-preserved : goal.loop-k-preserved
loop-k-preserved c =
    let l = c.loop-k in
    l.invariant ∙ ap (refused_at 7) (fails _ l.k _ (search rules) (c.labelled.ensures c.if-labelled.false) refl)

pub returns : goal.returns
returns c =
    let l = c.loop-k in
    l.invariant ∙ ap (refused_at 7) (sym (none _ l.k _ (search rules)) ∙ none _ c.args.count _ (omega arith))
