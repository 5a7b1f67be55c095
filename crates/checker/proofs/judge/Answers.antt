use Rattle.std.proofs.lemmas.Result.{err_from_is_err_and}
use Rattle.checker.proofs.StageLaws.{sound-walk, records-fault, records-fine, rungs-fault, rungs-fine, loops-bad, loops-done, jumps-fault, jumps-few, jumps-many}
use Rattle.checker.proofs.judge.Goals as goal

pub returns-in_err-first_bad : goal.returns-in_err-first_bad
returns-in_err-first_bad c =
    let p = err_from_is_err_and c.from_residual.result c.from_residual.ensures.1 in
    rw (p.1, p.2) (records-fault _ c.in_err-first_bad.ensures)

pub returns-in_err-first_broken : goal.returns-in_err-first_broken
returns-in_err-first_broken c =
    let p = err_from_is_err_and c.from_residual-in_err-first_broken.result c.from_residual-in_err-first_broken.ensures.1 in
    rw (p.1, p.2) (records-fine _ c.in_ok-first_bad.ensures (rungs-fault _ c.in_err-first_broken.ensures))

pub returns-in-Err : goal.returns-in-Err
returns-in-Err c =
    records-fine _ c.in_ok-first_bad.ensures (rungs-fine _ c.in_ok-first_broken.ensures (loops-bad _ c.requires.held.some c.in-Err.ensures))

pub first_unlabelled-requires-clause-sound : goal.first_unlabelled-requires-clause-sound
first_unlabelled-requires-clause-sound c = sound-walk _ _ c.in-Ok.ensures

pub returns-in_err-first_unlabelled : goal.returns-in_err-first_unlabelled
returns-in_err-first_unlabelled c =
    let p = err_from_is_err_and c.from_residual-in_err-first_unlabelled.result c.from_residual-in_err-first_unlabelled.ensures.1 in
    rw (p.1, p.2) (records-fine _ c.in_ok-first_bad.ensures (rungs-fine _ c.in_ok-first_broken.ensures (loops-done _ c.requires.held.some c.in-Ok.ensures (jumps-fault _ _ c.in_err-first_unlabelled.ensures))))

pub returns-then-w-le10000000 : goal.returns-then-w-le10000000
returns-then-w-le10000000 c =
    records-fine _ c.in_ok-first_bad.ensures (rungs-fine _ c.in_ok-first_broken.ensures (loops-done _ c.requires.held.some c.in-Ok.ensures (jumps-few _ _ c.in_ok-first_unlabelled.ensures c.if-w-le10000000.true)))

pub returns : goal.returns
returns c =
    records-fine _ c.in_ok-first_bad.ensures (rungs-fine _ c.in_ok-first_broken.ensures (loops-done _ c.requires.held.some c.in-Ok.ensures (jumps-many _ _ c.in_ok-first_unlabelled.ensures c.if-w-le10000000.false)))
