-- `asked::command` meets its contract. Assumes nothing.
use Rattle.std.proofs.Common.{Bool, ◌&&◌, eqb, sym, ap, ◌∙◌, refl, arith}
use Rattle.std.proofs.lemmas.Grind.{common_steps}
use Rattle.calls.proofs.Commands.{command-nameless, command-fits, command-picture, command-none, map-is}
use Rattle.calls.specs.Asked.{names, picture}
use Rattle.calls.proofs.asked.command.Goals as goal

pub returns-in_err-command : goal.returns-in_err-command
unfolding names
returns-in_err-command c =
    let h = command-nameless _ _ _ _ c.word.ensures c.which-place.ensures refl in
    grind (arith, common_steps, h)

pub returns-then-fits : goal.returns-then-fits
unfolding names
returns-then-fits c =
    let v = c.in_ok-command.ensures in
    command-fits _ _ _ _ c.word.ensures (v.value ∙ c.which-place.ensures) c.count-count.ensures _ c.fits.ensures c.if-fits.true

pub returns-then-eq-count : goal.returns-then-eq-count
unfolding names picture
returns-then-eq-count c =
    let v = c.in_ok-command.ensures in
    let m = c.eq.ensures ∙ map-is c.in_ok-command.command in
    command-picture _ _ _ _ c.word.ensures (v.value ∙ c.which-place.ensures) c.count-count.ensures _ c.fits.ensures _ _ c.word-2.ensures c.same-pictured.ensures
    c.if-fits.false
    (ap (λ (b : Bool). b && eqb c.count-count.result 3 && c.same-pictured.result) (sym m) ∙ c.if-eq-count.true)

pub returns : goal.returns
unfolding names picture
returns c =
    let v = c.in_ok-command.ensures in
    let m = c.eq.ensures ∙ map-is c.in_ok-command.command in
    command-none _ _ _ _ c.word.ensures (v.value ∙ c.which-place.ensures) c.count-count.ensures _ c.fits.ensures _ _ c.word-2.ensures c.same-pictured.ensures
    c.if-fits.false
    (ap (λ (b : Bool). b && eqb c.count-count.result 3 && c.same-pictured.result) (sym m) ∙ c.if-eq-count.false)
