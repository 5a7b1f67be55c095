use mathlib.Core.Path.{refl, sym, ◌∙◌}
use native.Mathlib.Omega.{arith}
use Rattle.job_moves.proofs.Judging.{line_refused, line-accepted, lines-over}
use Rattle.job_moves.specs.Ready.{meetings_in}
use Rattle.job_moves.proofs.by_tasks.Goals as goal

pub loop-line-init : goal.loop-line-init
loop-line-init c = refl

pub returns-in-Err : goal.returns-in-Err
returns-in-Err c =
    let a = c.args in
    line_refused a.f.now a.lines.now (meetings_in a.lines.now) c.loop-line.line (omega arith) c.in-Err.ensures ∙ sym c.loop-line.invariant

pub loop-line-preserved : goal.loop-line-preserved
loop-line-preserved c =
    let a = c.args in
    c.loop-line.invariant ∙ line-accepted a.f.now a.lines.now (meetings_in a.lines.now) c.loop-line.line (omega arith) c.in_default.ensures

pub returns : goal.returns
returns c =
    let a = c.args in
    c.meetings.ensures ∙ lines-over a.f.now a.lines.now (meetings_in a.lines.now) c.loop-line.line (omega arith) ∙ sym c.loop-line.invariant
