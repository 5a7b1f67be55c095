use borrow.Author.Rules.{rules}
use mathlib.Core.Path.{sym, ◌∙◌}
use native.Mathlib.Nat.{sub-zero}
use Rattle.rungs.proofs.Laws.{turn, broke, done, within-after}
use Rattle.rungs.proofs.first_broken.Goals as goal

pub loop-k-init : goal.loop-k-init
loop-k-init c = (search rules, search rules, rw sub-zero)

pub returns-then-not-keeps : goal.returns-then-not-keeps
returns-then-not-keeps c =
    let l = c.loop-k in
    broke _ _ l.k _ (search rules) c.instr_at-i.ensures c.keeps.ensures c.if-not-keeps.true ∙ sym l.invariant.2

pub after_record-s-requires : goal.after_record-s-requires
after_record-s-requires c = c.loop-k.invariant.1

pub loop-k-preserved : goal.loop-k-preserved
loop-k-preserved c =
    let l = c.loop-k in (
      search rules,
      within-after _ _ l.invariant.1 c.keeps.ensures c.if-not-keeps.false c.after_record-s.ensures,
      l.invariant.2 ∙ turn _ _ l.k _ (search rules) c.instr_at-i.ensures c.keeps.ensures c.if-not-keeps.false c.after_record-s.ensures,
    )

pub returns : goal.returns
returns c =
    let l = c.loop-k in
    done _ _ l.k _ (search rules) ∙ sym l.invariant.2
