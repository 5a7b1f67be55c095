use borrow.Author.Rules.{rules}
use mathlib.Core.Path.{sym, ◌∙◌}
use native.Mathlib.Nat.{sub-zero}
use Rattle.labels.proofs.Laws.{passes, fails, none}
use Rattle.labels.proofs.label.Goals as goal

pub loop-k-init : goal.loop-k-init
loop-k-init c = rw sub-zero

pub returns-then-sets : goal.returns-then-sets
returns-then-sets c =
    let l = c.loop-k in
    passes _ l.k _ (search rules) (rw c.control_at.ensures at c.sets.ensures) c.if-sets.true ∙ sym l.invariant

pub loop-k-preserved : goal.loop-k-preserved
loop-k-preserved c =
    let l = c.loop-k in
    l.invariant ∙ fails _ l.k _ (search rules) (rw c.control_at.ensures at c.sets.ensures) c.if-sets.false

pub returns : goal.returns
returns c =
    let l = c.loop-k in
    none _ l.k _ (search rules) ∙ sym l.invariant
