-- Into a word at 16 bits, else into a pair, of words that are there. Assumes nothing.
use mathlib.Core.Path.{ap, ap₂, ◌∙◌}
use Prim.Native.Nat.{◌+◌, ◌^◌}
use lib.IntN.{ℤ}
use lib.ListN.{set}
use mir.Syntax.{w16}
use mir.Facts.{to_z-of_z}
use borrow.Author.Tests.{ne_eqb}
use Rattle.ec20.specs.Registers.{high_word, low_word, with_pair, with_number}
use Rattle.ints.proofs.Parts.{said}
use Rattle.words.proofs.Steps.{Told, high-of, low_of}
use Rattle.words.proofs.put_in.Goals as goal

-- the two words of v
first : (c : goal.After-of_bits) → Told (2 ^ 15) c.of_bits.result (high_word c.args.v)
first c =
    high-of _ c.raised-u.ensures (to_z-of_z c.ranges.v) c.of_bits.type_inv c.of_bits.ensures

second : (c : goal.After-of_bits-in_default) → Told (2 ^ 15) c.of_bits-in_default.result (low_word c.args.v)
second c =
    low_of _ c.raised-u.ensures (to_z-of_z c.ranges.v) c.of_bits-in_default.type_inv c.of_bits-in_default.ensures

pub narrow16-requires-in_default : goal.narrow16-requires-in_default
narrow16-requires-in_default c = record { sfits = (first c).1 }

pub narrow16-requires-in_default-2 : goal.narrow16-requires-in_default-2
narrow16-requires-in_default-2 c = record { sfits = (second c).1 }

pub returns-in-16 : goal.returns-in-16
unfolding with_number
returns-in-16 c =
    let a = c.args in
    rw c.in-16.is
    (ap (λ (y : ℤ). set a.d.now a.i y) (said w16 c.narrow16.type_inv (c.narrow16.ensures ∙ to_z-of_z c.ranges.v)))

pub returns-in_default : goal.returns-in_default
unfolding with_number with_pair
returns-in_default c =
    let a = c.args in
    rw (ne_eqb _ _ c.in_default.in_default-own.rest.1)
    (ap₂ (λ (x y : ℤ). set (set a.d.now a.i x) (a.i + 1) y)
    (said w16 c.narrow16-in_default.type_inv (c.narrow16-in_default.ensures ∙ (first c.before.before.before).0))
    (said w16 c.narrow16-in_default-2.type_inv (c.narrow16-in_default-2.ensures ∙ (second c.before).0)))
