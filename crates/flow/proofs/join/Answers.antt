use borrow.Author.Tests.{eq-eqb, ne_eqb}
use mathlib.Core.Path.{refl}
use Rattle.ec20.specs.Flow.{join_of}
use Rattle.flow.proofs.join.Goals as goal

pub returns-then-n-eq7 : goal.returns-then-n-eq7
unfolding join_of
returns-then-n-eq7 c = rw (eq-eqb _ _ c.if-n-eq7.true, c.make_flow.ensures, c.flow_of.ensures, c.is_on-on.ensures, c.top_of-t.ensures) refl

pub returns : goal.returns
unfolding join_of
returns c = rw (ne_eqb _ _ c.if-n-eq7.false, c.make_flow-2.ensures, c.flow_of-2.ensures, c.is_on-on.ensures, c.top_of-t.ensures) refl
