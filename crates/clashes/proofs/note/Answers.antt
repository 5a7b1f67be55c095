use mathlib.Core.Path.{refl}
use native.Mathlib.Omega.{arith}
use borrow.Author.Rules.{rules}
use Rattle.clashes.specs.Rows.{noted}
use Rattle.clashes.proofs.PairLaws.{note-told, note-none}
use Rattle.clashes.proofs.note.Goals as goal

pub returns-then-c : goal.returns-then-c
unfolding noted
returns-then-c c = record { value = rw c.if-c.true refl; by_index = λ s b e f. note-told s b _ _ _ _ _ c.if-c.true (search rules) e f }

pub returns : goal.returns
unfolding noted
returns c = record { value = rw c.if-c.false (omega arith); by_index = λ s b e f. note-none s b _ _ _ _ c.if-c.false f }
