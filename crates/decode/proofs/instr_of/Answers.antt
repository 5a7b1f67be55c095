use Rattle.ec20.specs.declared.Form.{Form}
use Rattle.ec20.specs.Code.{instr_by}
use mathlib.Core.Path.{ap, ◌∙◌}
use Rattle.decode.proofs.instr_of.Goals as goal

pub returns : goal.returns
returns c = c.instr_by.ensures ∙ ap (λ (w : Form). instr_by w c.args.r) c.form_in-form.ensures
