use mathlib.Core.Bool.{false}
use mathlib.Core.Path.{◌≡◌, sym, ◌∙◌}
use Rattle.ec20.specs.Forms.{is_word_form}
use Rattle.ec20.specs.Table.{row_of}
use Rattle.step.proofs.ExecLaws.{nop-arm, compare-arm, word-arm}
use Rattle.step.proofs.FormLaws as by
use Rattle.step.proofs.rest.Goals as goal

pub returns-in-Three : goal.returns-in-Three
returns-in-Three c = λ t o. word-arm _ _ _ _ _ (by.word c.requires.due (rw (sym c.form_at.ensures) (by.word-form _ c.in-Three.is))) (c.word.ensures t o)

pub returns-in-Compare : goal.returns-in-Compare
returns-in-Compare c =
    let five = sym c.form_at.ensures ∙ c.in-Compare.is in
    λ t o. compare-arm _ _ _ _ _ (by.compare c.requires.due five c.operand_at-a.ensures.0 c.operand_at-b.ensures.0) (c.wide-w.ensures.0 ∙ c.width_at.ensures ∙ by.sixteen _ c.requires.due.known five) (c.compare.ensures _ _)

pub returns-in_default : goal.returns-in_default
returns-in_default c =
    let plain : is_word_form (row_of c.args.n).form ≡ false = rw (sym c.form_at.ensures) (by.no_word _ c.in_default.not-Three c.in_default.not-Two c.in_default.not-One) in
    λ t o. nop-arm _ _ _ _ _ (by.plain c.requires.due c.requires.left plain (λ e. c.in_default.not-Compare (c.form_at.ensures ∙ e))) c.go_on.ensures
