use borrow.Author.Tests.{eq-eqb, ne_eqb}
use mathlib.Core.Path.{refl}
use Rattle.ec20.specs.Flow.{branch_of}
use Rattle.flow.proofs.branch.Goals as goal

pub returns-then-n-eq9 : goal.returns-then-n-eq9
unfolding branch_of
returns-then-n-eq9 c = rw (eq-eqb _ _ c.if-n-eq9.true, c.make_flow.ensures, c.pushed.ensures, c.is_on.ensures) refl

pub returns-then-n-eq10 : goal.returns-then-n-eq10
unfolding branch_of
returns-then-n-eq10 c = rw (ne_eqb _ _ c.if-n-eq9.false, eq-eqb _ _ c.if-n-eq10.true, c.make_flow-then-n-eq10.ensures, c.flow_of.ensures, c.top_of-t.ensures) refl

pub returns : goal.returns
unfolding branch_of
returns c = rw (ne_eqb _ _ c.if-n-eq9.false, ne_eqb _ _ c.if-n-eq10.false, c.make_flow-2.ensures, c.flow_of-2.ensures, c.top_of-t.ensures) refl
