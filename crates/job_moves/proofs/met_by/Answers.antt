use mathlib.Core.Path.{refl, sym, ◌∙◌}
use Rattle.job_moves.proofs.Meeting.{met, unmet, none_ahead, all-ahead}
use borrow.Author.Rules.{rules}
use Rattle.job_moves.proofs.met_by.Goals as goal

pub loop-j-init : goal.loop-j-init
loop-j-init c = refl

pub returns-then-tasks_meet : goal.returns-then-tasks_meet
returns-then-tasks_meet c =
    let a = c.args in
    met a.lines.now a.i c.loop-j.j (search rules) c.tasks_meet.ensures c.if-tasks_meet.true ∙ sym c.loop-j.invariant ∙ all-ahead a.lines.now a.i

pub loop-j-preserved : goal.loop-j-preserved
loop-j-preserved c =
    let a = c.args in
    c.loop-j.invariant ∙ unmet a.lines.now a.i c.loop-j.j (search rules) c.tasks_meet.ensures c.if-tasks_meet.false

pub returns : goal.returns
returns c =
    let a = c.args in
    none_ahead a.lines.now a.i c.loop-j.j (search rules) ∙ sym c.loop-j.invariant ∙ all-ahead a.lines.now a.i
