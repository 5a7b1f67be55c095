use borrow.Author.Rules.{rules}
use mathlib.Core.Path.{refl, sym, ap, ◌∙◌}
use native.Mathlib.Nat.{sub-zero}
use Rattle.ec20.specs.Basics.{refused_at}
use Rattle.ec20.specs.Move.{block, partly, split_fault}
use Rattle.ec20.specs.UseMap.{record_has}
use Rattle.labels.proofs.Laws.{passes, fails, none}
use Rattle.splits.proofs.first_split.Goals as goal

pub loop-k-init : goal.loop-k-init
loop-k-init c = (search rules, rw sub-zero refl)

pub returns-then-is_split : goal.returns-then-is_split
unfolding split_fault
returns-then-is_split c =
    let a = c.args in
    ap (refused_at 13) (passes _ c.loop-k.k _ (search rules) (c.is_split.ensures ∙ ap (record_has (partly (block a.start a.n))) c.record_from.ensures.0) c.if-is_split.true)
    ∙ sym (ap (refused_at 13) c.loop-k.invariant.1)

pub loop-k-preserved : goal.loop-k-preserved
loop-k-preserved c =
    let a = c.args in (
      search rules,
      c.loop-k.invariant.1
          ∙ fails _ c.loop-k.k _ (search rules) (c.is_split.ensures ∙ ap (record_has (partly (block a.start a.n))) c.record_from.ensures.0) c.if-is_split.false,
    )

pub returns : goal.returns
unfolding split_fault
returns c =
    let l = c.loop-k in
    ap (refused_at 13) (none _ l.k _ (search rules) ∙ sym l.invariant.1)
