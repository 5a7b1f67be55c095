use Rattle.unit_texts.proofs.Held.{passed_none, passed-more, passed-misspelt, passed-all}
use Rattle.unit_texts.proofs.read.Goals as goal

pub loop-from-init : goal.loop-from-init
loop-from-init c = passed_none _ _ c.empty-table.ensures

pub returns-in_default : goal.returns-in_default
returns-in_default c =
    passed-misspelt _ _ _ _ c.loop-from.invariant c.loop-from-test.true _ c.unit_line.ensures.value c.in_default.is

pub loop-from-preserved : goal.loop-from-preserved
loop-from-preserved c =
    let h = c.in-Some.ensures.unit_in in
    passed-more _ _ _ _ c.loop-from.invariant c.loop-from-test.true _ c.unit_line.ensures.value _ _ _ c.in-Some.is h.4 h.5 c.declared.ensures c.put.ensures

pub returns : goal.returns
returns c = passed-all _ _ _ _ c.loop-from.invariant c.loop-from-test.false
