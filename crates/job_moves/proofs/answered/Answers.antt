use native.Mathlib.Omega.{arith}
use lib.ListN.{get_or}
use mathlib.Core.Path.{refl}
use mir.Syntax.{w32}
use mir.Val.{Fits}
use Rattle.std.proofs.lemmas.Result.{err_from_is_err_and}
use Rattle.job_moves.proofs.Judging.{place_found, no_place, judged-bad, judged-fine}
use Rattle.jobs.specs.Tasks.{task_of, pool_of}
use Rattle.mover.proofs.Judging.{is-sized}
use borrow.Author.Rules.{rules}
use Rattle.job_moves.proofs.answered.Goals as goal

pub overflow_add-place : goal.overflow_add-place
overflow_add-place c =
    let l = c.args.l in
    let n : Fits w32 (get_or l 1 0) = search rules in
    let q : Fits w32 (get_or l 2 0) = search rules in
    omega arith

pub judge-requires : goal.judge-requires
judge-requires c =
    let l = c.args.l in
    let s : Fits w32 (get_or l 0 0) = search rules in
    let n : Fits w32 (get_or l 1 0) = search rules in
    (c.requires.checked.held, omega arith, omega arith)

pub returns-in_err-judge : goal.returns-in_err-judge
returns-in_err-judge c =
    let p = err_from_is_err_and c.from_residual.result c.from_residual.ensures.1 in
    rw (p.1, p.2) (judged-bad _ _ _ c.requires c.in_err-judge.ensures)

pub place-requires : goal.place-requires
place-requires c =
    let t = task_of c.args.l in
    let w = is-sized _ t.block (pool_of t) c.in_ok-judge.ensures refl in
    record { held = c.requires.checked.held; size_nonzero = (w.some, w.block, w.pool, w.most); count_value = c.requires.checked.fine }

pub returns-in_default : goal.returns-in_default
returns-in_default c = judged-fine _ _ _ c.requires c.in_ok-judge.ensures (no_place _ _ c.in_default.ensures)

pub returns : goal.returns
returns c = judged-fine _ _ _ c.requires c.in_ok-judge.ensures (place_found _ _ c.in-Some.ensures)
