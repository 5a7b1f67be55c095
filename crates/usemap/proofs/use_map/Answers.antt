use Rattle.std.proofs.lemmas.Result.{err_from_is_err_and}
use Rattle.usemap.proofs.Laws.{unfit-map, fit-map}
use Rattle.usemap.proofs.use_map.Goals as goal

pub returns-in_err-first : goal.returns-in_err-first
returns-in_err-first c =
    let p = err_from_is_err_and c.from_residual.result c.from_residual.ensures.1 in
    rw (p.1, p.2) (unfit-map _ c.in_err-first.ensures.value)

pub returns : goal.returns
returns c = fit-map _ c.in_ok-first.ensures.value c.map_by.ensures
