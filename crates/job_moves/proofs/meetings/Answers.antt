use mathlib.Core.Path.{refl, sym, ◌∙◌}
use Rattle.job_moves.proofs.Meeting.{meets_at, meets-none, meets-over, all_lines}
use borrow.Author.Rules.{rules}
use Rattle.job_moves.proofs.meetings.Goals as goal

pub loop-i-init : goal.loop-i-init
loop-i-init c = refl

pub returns-in-Some : goal.returns-in-Some
returns-in-Some c =
    let a = c.args.lines.now in
    meets_at a c.loop-i.i (search rules) c.in-Some.ensures ∙ sym c.loop-i.invariant ∙ all_lines a

pub loop-i-preserved : goal.loop-i-preserved
loop-i-preserved c =
    let a = c.args.lines.now in
    c.loop-i.invariant ∙ meets-none a c.loop-i.i (search rules) c.in_default.ensures

pub returns : goal.returns
returns c =
    let a = c.args.lines.now in
    meets-over a c.loop-i.i (search rules) ∙ sym c.loop-i.invariant ∙ all_lines a
