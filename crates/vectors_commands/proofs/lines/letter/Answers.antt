-- Past the line 0, and else by the byte. Assumes nothing.
use mathlib.Core.Path.{refl}
use native.Mathlib.Omega.{arith}
use lib.ListN.{get_or-eq_default}
use borrow.Author.Tests.{eq-eqb, ne_eqb}
use Rattle.vectors_commands.proofs.lines.letter.Goals as goal

pub returns-then-i-text : goal.returns-then-i-text
returns-then-i-text c = let a = c.args in rw (get_or-eq_default a.text.now 0 {n = a.i} (omega arith)) refl

pub returns-then-b-eq32 : goal.returns-then-b-eq32
returns-then-b-eq32 c = rw (eq-eqb _ _ c.if-b-eq32.true) refl

pub returns-else-b-eq32 : goal.returns-else-b-eq32
returns-else-b-eq32 c = rw (ne_eqb _ _ c.if-b-eq32.false) refl
