use borrow.Author.Tests.{eq-eqb, ne_eqb}
use mathlib.Core.Path.{refl}
use Rattle.ec20.specs.Flow.{failed}
use Rattle.flow.proofs.fail.Goals as goal

pub returns-then-s-ne0 : goal.returns-then-s-ne0
unfolding failed
returns-then-s-ne0 c = rw (ne_eqb _ _ c.if-s-ne0.true) c.act.ensures

pub returns : goal.returns
unfolding failed
returns c = rw (eq-eqb _ _ c.if-s-ne0.false) refl
