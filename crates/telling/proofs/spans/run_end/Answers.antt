use Rattle.std.proofs.Common.{◌≡◌, ◌∙◌, sym, arith}
use Rattle.telling.proofs.Runs.{run-found, run_more, run-done}
use Rattle.telling.proofs.spans.run_end.Goals as goal

pub returns-then-marks-k : goal.returns-then-marks-k
returns-then-marks-k c =
    let l = c.loop-end in
    (run-found _ _ l.end _ l.invariant _ c.loop-end-test.true c.marks.ensures c.if-marks-k.true, omega arith, omega arith)

pub loop-end-preserved : goal.loop-end-preserved
loop-end-preserved c =
    let l = c.loop-end in
    run_more _ _ l.end _ l.invariant _ c.loop-end-test.true c.marks.ensures c.if-marks-k.false

pub returns : goal.returns
returns c =
    let l = c.loop-end in
    let e : l.end ≡ 8000 = omega arith in
    (sym e ∙ run-done _ _ l.end _ l.invariant c.loop-end-test.false, omega arith, omega arith)
