use mathlib.Core.Path.{refl}
use native.Mathlib.Omega.{arith}
use Rattle.clashes.proofs.grown.Goals as goal

pub returns-then-c : goal.returns-then-c
returns-then-c c = rw c.if-c.true refl

pub returns-else-c : goal.returns-else-c
returns-else-c c = rw c.if-c.false (omega arith)
