use borrow.Author.Tests.{eq-eqb, ne_eqb}
use native.Mathlib.Omega.{arith}
use mathlib.Core.Path.{refl}
use Rattle.faults.proofs.half_of.Goals as goal

pub returns-then-w-eq16 : goal.returns-then-w-eq16
returns-then-w-eq16 c = rw (eq-eqb _ _ c.if-w-eq16.true) (refl, omega arith, omega arith)

pub returns-else-w-eq16 : goal.returns-else-w-eq16
returns-else-w-eq16 c = rw (ne_eqb _ _ c.if-w-eq16.false) (refl, omega arith, omega arith)
