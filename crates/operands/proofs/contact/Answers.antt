-- By the flow and the constant. Assumes nothing.
use Rattle.ec20.specs.Timers.{contact_is}
use borrow.Author.Rules.{rules}
use Rattle.operands.proofs.contact.Goals as goal

pub returns-then-on : goal.returns-then-on
unfolding contact_is
returns-then-on c = rw c.if-on.true (search rules)

pub returns-else-on : goal.returns-else-on
unfolding contact_is
returns-else-on c = rw c.if-on.false (search rules)
