use Rattle.std.proofs.lemmas.Result.{err_from_is_err_and}
use Rattle.std.specs.Option.{IsSome}
use mathlib.Core.Path.{refl, sym, subst, ◌∙◌}
use Rattle.checker.proofs.Accepted.{accepted-framed, framed-whole, accepted-frame, accepted-not}
use Rattle.checker.proofs.accept.Goals as goal

pub returns-in_err-check-clause-value : goal.returns-in_err-check-clause-value
returns-in_err-check-clause-value c =
    let p = err_from_is_err_and c.from_residual.result c.from_residual.ensures.1 in
    rw (p.1, p.2) (accepted-not _ c.in_err-check.ensures)

pub unwrap-requires : goal.unwrap-requires
unwrap-requires c = subst IsSome (framed-whole _ (accepted-framed _ c.in_ok-check.ensures refl) ∙ sym c.frame.ensures.value) refl

pub returns-clause-value : goal.returns-clause-value
returns-clause-value c = accepted-frame _ c.in_ok-check.ensures (sym c.unwrap.ensures ∙ c.frame.ensures.value)
