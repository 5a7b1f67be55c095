use Rattle.std.proofs.lemmas.Result.{err_from_is_err_and}
use mathlib.Core.Path.{◌≡◌, refl, sym, subst}
use Rattle.checker.proofs.Accepted.{taken}
use Rattle.ec20.specs.Devices.{ec20}
use Rattle.ec20.specs.File.{Records}
use Rattle.ec20.specs.Judged.{Fine}
use Rattle.ec20.specs.Move.{block, pool}
use Rattle.ec20.specs.Operands.{first_bad}
use Rattle.mover.proofs.Judging.{is-sized}
use Rattle.mover.proofs.Moving.{unfit, own, judged, no_place, moved_to}
use Rattle.mover.proofs.Placing.{is_below}
use Rattle.mover.proofs.move_block.Goals as goal

pub returns-in_err-first : goal.returns-in_err-first
returns-in_err-first c =
    let p = err_from_is_err_and c.from_residual.result c.from_residual.ensures.1 in
    rw (p.1, p.2) (unfit _ _ _ c.in_err-first.ensures.value)

pub returns-in_err-judge : goal.returns-in_err-judge
returns-in_err-judge c =
    let p = err_from_is_err_and c.from_residual-in_err-judge.result c.from_residual-in_err-judge.ensures.1 in
    rw (p.1, p.2) (judged _ _ _ (taken _ c.in_ok-first.ensures.value) c.in_err-judge.ensures)

pub place-requires-clause-size_nonzero : goal.place-requires-clause-size_nonzero
place-requires-clause-size_nonzero c =
    let a = c.args in
    let w = is-sized _ (block a.start a.length) (pool a.pool_start a.pool_end) c.in_ok-judge.ensures refl in
    (w.some, w.block, w.pool, w.most)

pub place-requires-clause-count_value : goal.place-requires-clause-count_value
place-requires-clause-count_value c =
    let t = taken _ c.in_ok-first.ensures.value in
    subst (λ (rs : Records). first_bad ec20 rs ≡ Fine) (sym (own _ t)) t.fine

pub returns-in_default : goal.returns-in_default
returns-in_default c =
    no_place _ _ _ (taken _ c.in_ok-first.ensures.value) c.in_ok-judge.ensures c.in_default.ensures

pub move_numbers-requires : goal.move_numbers-requires
move_numbers-requires c =
    let a = c.args in (
      c.in_ok-first.ensures.held,
      is_below _ _ _ _ _ _ c.in-Some.ensures refl (is-sized _ (block a.start a.length) (pool a.pool_start a.pool_end) c.in_ok-judge.ensures refl),
    )

pub returns : goal.returns
returns c =
    moved_to _ _ _ (taken _ c.in_ok-first.ensures.value) c.in_ok-judge.ensures c.in-Some.ensures c.move_numbers.ensures
