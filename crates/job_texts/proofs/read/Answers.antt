use Rattle.job_texts.proofs.Held.{room-same, passed_none, passed-more, passed-misspelt, passed-all}
use Rattle.job_texts.proofs.read.Goals as goal

pub loop-from-init : goal.loop-from-init
loop-from-init c = passed_none _ _

pub loop-from-preserved : goal.loop-from-preserved
loop-from-preserved c =
    let h = c.in-Some.ensures.job_line_in in
    passed-more _ _ _ _ _ c.loop-from.invariant c.loop-from-test.true _ c.job_line.ensures.value _ _ c.in-Some.is h.3 h.4 c.put.ensures

pub shape_of-lines-in_default : goal.shape_of-lines-in_default
shape_of-lines-in_default c = room-same _ _ _ _ _ c.loop-from.invariant

pub returns-in_default : goal.returns-in_default
returns-in_default c =
    let p = passed-misspelt _ _ _ _ _ c.loop-from.invariant c.loop-from-test.true _ c.job_line.ensures.value c.in_default.is in
    record { value = p.0; lines_after = p.1 }

pub shape_of-lines : goal.shape_of-lines
shape_of-lines c = room-same _ _ _ _ _ c.loop-from.invariant

pub returns : goal.returns
returns c =
    let p = passed-all _ _ _ _ _ c.loop-from.invariant c.loop-from-test.false in
    record { value = p.0; lines_after = p.1 }
