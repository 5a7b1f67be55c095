use borrow.Author.Rules.{rules}
use mathlib.Core.Path.{refl, sym, ap, ◌∙◌}
use Rattle.ec20.specs.Basics.{refused_at}
use Rattle.labels.proofs.Laws.{passes, fails, none}
use Rattle.labels.proofs.first_from.Goals as goal

pub loop-k-init : goal.loop-k-init
loop-k-init c = refl

pub label_fault-requires : goal.label_fault-requires
label_fault-requires c = record { held = c.requires.held; places = c.requires.places; homes = c.requires.homes; sound = c.requires.sound; k_lt_count = c.loop-k-test.true }

pub returns-then-label_fault : goal.returns-then-label_fault
returns-then-label_fault c =
    let l = c.loop-k in
    ap (refused_at 7) (passes _ l.k _ (search rules) c.label_fault.ensures c.if-label_fault.true) ∙ sym l.invariant

pub loop-k-preserved : goal.loop-k-preserved
loop-k-preserved c =
    let l = c.loop-k in
    l.invariant ∙ ap (refused_at 7) (fails _ l.k _ (search rules) c.label_fault.ensures c.if-label_fault.false)

pub returns : goal.returns
returns c =
    let l = c.loop-k in
    ap (refused_at 7) (none _ l.k _ (search rules)) ∙ sym l.invariant
