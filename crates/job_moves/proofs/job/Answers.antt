use native.Mathlib.Omega.{arith}
use Rattle.checker.proofs.Accepted.{taken}
use Rattle.job_moves.proofs.Cases.{is-ready, too_many, unfit, fit}
use Rattle.job_moves.proofs.job.Goals as goal

pub returns-then-lines-gt64 : goal.returns-then-lines-gt64
returns-then-lines-gt64 c =
    let a = c.args in
    rw c.at_no_line.ensures (too_many a.file.now a.d.now a.lines.now (omega arith))

pub job_accepted-requires : goal.job_accepted-requires
job_accepted-requires c = is-ready _ c.in-Ok.ensures.held (taken _ c.in-Ok.ensures.value)

pub returns-in-Ok : goal.returns-in-Ok
returns-in-Ok c =
    let a = c.args in
    fit a.file.now a.d.now a.lines.now (omega arith) (taken _ c.in-Ok.ensures.value) c.job_accepted.ensures

pub returns-in-Err : goal.returns-in-Err
returns-in-Err c =
    let a = c.args in
    rw c.at_no_line-in-Err.ensures (unfit a.file.now a.d.now a.lines.now (omega arith) c.in-Err.ensures.value)
