-- By the length, and then by the first byte. Assumes nothing.
use mathlib.Core.Path.{refl}
use borrow.Author.Tests.{eq-eqb, ne_eqb}
use Rattle.vectors_commands.proofs.lines.is_call.Goals as goal

pub returns-then-text-eq0 : goal.returns-then-text-eq0
returns-then-text-eq0 c = rw (eq-eqb _ _ c.if-text-eq0.true) refl

pub returns : goal.returns
returns c = rw (ne_eqb _ _ c.if-text-eq0.false) refl
