-- Into a word at 16 bits, else into a pair. Assumes nothing.
use mathlib.Core.Path.{ap, ◌∙◌}
use lib.IntN.{ℤ}
use lib.ListN.{set}
use mir.Facts.{to_z-of_z}
use borrow.Author.Tests.{ne_eqb}
use Rattle.ec20.specs.Registers.{with_pair, with_number}
use Rattle.words.proofs.put_number.Goals as goal

pub returns-in-16 : goal.returns-in-16
unfolding with_number
returns-in-16 c =
    rw c.in-16.is
    (c.put_word.ensures ∙ ap (λ (y : ℤ). set c.args.d.now c.args.i y) (to_z-of_z c.ranges.v))

pub returns-in_default : goal.returns-in_default
unfolding with_number
returns-in_default c =
    rw (ne_eqb _ _ c.in_default.in_default-own.rest.1)
    (c.put_pair.ensures ∙ ap (λ (y : ℤ). with_pair c.args.d.now c.args.i y) (to_z-of_z c.ranges.v))
