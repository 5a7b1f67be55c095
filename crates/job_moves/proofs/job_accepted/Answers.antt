use mathlib.Core.Path.{ap}
use mathlib.Core.Bool.{not}
use Rattle.std.proofs.lemmas.Result.{err_from_is_err_and}
use Rattle.job_moves.proofs.Cases.{is-movable, is_right, lines-refused, lines-done, wrong-table, right-table}
use Rattle.job_moves.proofs.Granting.{each-granted}
use Rattle.job_moves.specs.Ready.{meetings_in}
use Rattle.job_moves.proofs.job_accepted.Goals as goal

pub returns-then-not-d : goal.returns-then-not-d
returns-then-not-d c =
    let a = c.args in
    rw c.at_no_line.ensures (wrong-table a.file.now a.d.now a.lines.now (ap not c.if-not-d.true))

pub returns-in_err-moves : goal.returns-in_err-moves
returns-in_err-moves c =
    let a = c.args in
    let p = err_from_is_err_and c.from_residual.result c.from_residual.ensures.1 in
    rw (p.1, p.2) (right-table a.file.now a.d.now a.lines.now (ap not c.if-not-d.false) (lines-refused a.file.now a.d.now a.lines.now c.in_err-moves.ensures))

pub move_tasks-requires : goal.move_tasks-requires
move_tasks-requires c =
    (is-movable _ c.requires, each-granted c.args.file.now c.args.lines.now (meetings_in c.args.lines.now) c.in_ok-moves.ensures)

pub exchange_tasks-requires : goal.exchange_tasks-requires
exchange_tasks-requires c =
    (is_right c.args.d.now (ap not c.if-not-d.false), each-granted c.args.file.now c.args.lines.now (meetings_in c.args.lines.now) c.in_ok-moves.ensures)

pub returns : goal.returns
returns c =
    let a = c.args in
    right-table a.file.now a.d.now a.lines.now (ap not c.if-not-d.false)
    (lines-done a.file.now a.d.now a.lines.now c.in_ok-moves.ensures c.move_tasks.ensures c.exchange_tasks.ensures)
