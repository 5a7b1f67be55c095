-- By the size, and then by each byte. Assumes nothing.
use native.Mathlib.Omega.{arith}
use Rattle.leftovers.proofs.Laws.{misfit, fit-second, fit-first}
use Rattle.leftovers.proofs.fit.Goals as goal

pub returns-in_default : goal.returns-in_default
returns-in_default c = misfit _ (λ e. omega arith)

pub returns-in_default-2 : goal.returns-in_default-2
returns-in_default-2 c = misfit _ (λ e. omega arith)

pub returns-then-tens-le9 : goal.returns-then-tens-le9
returns-then-tens-le9 c = fit-second c.args.rest.now (omega arith) c.if-tens-le9.true

pub returns-else-tens-le9 : goal.returns-else-tens-le9
returns-else-tens-le9 c = fit-first c.args.rest.now (omega arith) c.if-tens-le9.false
