use mathlib.Core.Path.{ap, sym, ◌∙◌}
use Rattle.decode.proofs.ByNumber.{opens, closes, jumps, marks, ends, plain}
use Rattle.ec20.specs.declared.Control.TheVariants.{Opens, Jumps, Marks}
use Rattle.decode.proofs.control_by.Goals as goal

pub returns-in-19 : goal.returns-in-19
returns-in-19 c r e v = ap Opens (sym v) ∙ opens r (e ∙ c.in-19.is)

pub returns-in-20 : goal.returns-in-20
returns-in-20 c r e v = closes r (e ∙ c.in-20.is)

pub returns-in-21 : goal.returns-in-21
returns-in-21 c r e v = ap Jumps (sym v) ∙ jumps r (e ∙ c.in-21.is)

pub returns-in-22 : goal.returns-in-22
returns-in-22 c r e v = ap Marks (sym v) ∙ marks r (e ∙ c.in-22.is)

pub returns-in-23 : goal.returns-in-23
returns-in-23 c r e v = ends r (e ∙ c.in-23.is)

pub returns-in_default : goal.returns-in_default
returns-in_default c r e v =
    let no = c.in_default.in_default-own.rest in
    plain r _ e no.0.0.0.0.1 no.0.0.0.1 no.0.0.1 no.0.1 no.1
