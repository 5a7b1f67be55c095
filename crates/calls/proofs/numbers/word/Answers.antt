use Rattle.std.proofs.Common.{◌∙◌, T, subst, sym, ap, refl}
use Rattle.calls.proofs.Digits.{number-is, number-is_none}
use Rattle.calls.specs.Numbers.{number_in}
use Rattle.calls.proofs.numbers.word.Goals as goal

pub returns-in-Some-clause-some : goal.returns-in-Some-clause-some
returns-in-Some-clause-some c =
    let h = number-is _ c.in-Some.n (c.in-Some.ensures ∙ ap number_in c.word.ensures) in
    (λ _. h.0, λ _. refl)

pub returns-in-Some-clause-value : goal.returns-in-Some-clause-value
returns-in-Some-clause-value c = (number-is _ c.in-Some.n (c.in-Some.ensures ∙ ap number_in c.word.ensures)).1

pub returns-clause-some : goal.returns-clause-some
returns-clause-some c =
    let h = number-is_none _ (c.in_default.ensures ∙ ap number_in c.word.ensures) in
    (λ e. absurd (subst T (sym e) tt), λ e. sym h ∙ e)
