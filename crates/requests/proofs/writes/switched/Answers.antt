use mathlib.Core.Path.{refl}
use native.Mathlib.Omega.{arith}
use borrow.Author.Tests.{eq-eqb, ne_eqb}
use Rattle.requests.proofs.writes.switched.Goals as goal

pub returns-then-q-eq65280 : goal.returns-then-q-eq65280
returns-then-q-eq65280 c = (rw (eq-eqb _ _ c.if-q-eq65280.true) refl, omega arith)

pub returns-else-q-eq65280 : goal.returns-else-q-eq65280
returns-else-q-eq65280 c = (rw (ne_eqb _ _ c.if-q-eq65280.false) refl, omega arith)
