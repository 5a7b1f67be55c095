use Rattle.calls.proofs.Words.{find-here, find-later, find-none}
use Rattle.calls.proofs.text.find.Goals as goal
use Rattle.std.proofs.Common.{arith, ◌≡◌, ◌∙◌, sym, length}

pub returns-then-text-at-clause-place : goal.returns-then-text-at-clause-place
returns-then-text-at-clause-place c =
    let l = c.loop-at in
    find-here c.args.text.now c.args.byte l.at _ l.invariant c.loop-at-test.true c.if-text-at.true

pub loop-at-preserved : goal.loop-at-preserved
loop-at-preserved c =
    let l = c.loop-at in
    find-later c.args.text.now c.args.byte l.at _ l.invariant c.loop-at-test.true c.if-text-at.false

pub returns-clause-place : goal.returns-clause-place
returns-clause-place c =
    let l = c.loop-at in
    let e : l.at ≡ length c.args.text.now = omega arith in
    sym e ∙ find-none c.args.text.now c.args.byte l.at _ l.invariant c.loop-at-test.false
