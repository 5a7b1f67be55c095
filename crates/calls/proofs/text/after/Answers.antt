-- `text::after` meets its contract. Assumes nothing.
use Rattle.std.proofs.Common.{arith}
use Rattle.calls.proofs.Words.{past-zero, no_zero}
use Rattle.calls.proofs.text.after.Goals as goal

pub returns-then-end-call : goal.returns-then-end-call
returns-then-end-call c =
    let a = c.args in
    (past-zero a.call.now a.from c.end_of-end.result c.end_of-end.ensures.0, omega arith)

pub returns : goal.returns
returns c =
    let a = c.args in
    (no_zero a.call.now a.from c.end_of-end.result c.end_of-end.ensures.0 c.if-end-call.false, c.end_of-end.ensures.1)
