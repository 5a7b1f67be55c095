use mathlib.Core.Path.{refl, sym}
use Rattle.ec20.specs.Flow.{contact_of}
use Rattle.flow.proofs.contact.Goals as goal

pub returns-then-n : goal.returns-then-n
unfolding contact_of
returns-then-n c = rw (c.if-n.true, sym c.turned-b.ensures) c.load.ensures

pub returns-then-n-2 : goal.returns-then-n-2
unfolding contact_of
returns-then-n-2 c = rw (c.if-n.false, c.if-n-2.true, sym c.turned-b.ensures, c.make_flow.ensures, c.flow_of.ensures, c.is_on.ensures) refl

pub returns : goal.returns
unfolding contact_of
returns c = rw (c.if-n.false, c.if-n-2.false, sym c.turned-b.ensures, c.make_flow-2.ensures, c.flow_of-2.ensures, c.is_on-2.ensures) refl
