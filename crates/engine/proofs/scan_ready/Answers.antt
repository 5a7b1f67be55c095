-- The run, 9, or refused by the check. Assumes nothing.
use mathlib.Core.Path.{subst, ◌∙◌}
use Rattle.engine.specs.Made.{Made}
use Rattle.runs.proofs.Going.{ran-scan}
use Rattle.std.proofs.lemmas.Result.{err_from_is_err_and}
use Rattle.engine.proofs.ScanLaws.{unfit-scan, nine, fits}
use Rattle.engine.proofs.scan_ready.Goals as goal

pub returns-in_err-first : goal.returns-in_err-first
returns-in_err-first c =
    let p = err_from_is_err_and c.from_residual.result c.from_residual.ensures.1 in
    rw (p.1, p.2) (unfit-scan _ _ (subst (Made c.args.f.now) c.in_err-first.was c.requires.made) _ _ _)

pub returns-then-sizes_fit-fit : goal.returns-then-sizes_fit-fit
returns-then-sizes_fit-fit c =
    let made = subst (Made c.args.f.now) c.in_ok-first.was c.requires.made in
    fits made _ _ _ c.sizes_fit.ensures c.fit.ensures c.if-sizes_fit-fit.true c.share-u.ensures.value c.share-u.ensures.rest_after
    (c.run.ensures ∙ ran-scan _ _ _ _ c.put_bit.ensures)

pub returns : goal.returns
returns c =
    let made = subst (Made c.args.f.now) c.in_ok-first.was c.requires.made in
    nine made _ _ _ c.sizes_fit.ensures c.fit.ensures c.if-sizes_fit-fit.false
