-- The high word at i, the low word after it. Assumes nothing.
use mathlib.Core.Path.{ap, ap₂, ◌∙◌}
use mathlib.Core.List.{List}
use Prim.Native.Nat.{◌+◌, ◌^◌}
use lib.IntN.{ℤ}
use lib.ListN.{set}
use mir.Facts.{to_z-of_z}
use Rattle.ec20.specs.Registers.{high_word, low_word, with_pair}
use Rattle.words.proofs.Steps.{Told, high-of, low_of}
use Rattle.words.proofs.put_pair.Goals as goal

-- the two words of v
first : (c : goal.After-of_bits) → Told (2 ^ 15) c.of_bits.result (high_word c.args.v)
first c =
    high-of _ c.raised-u.ensures (to_z-of_z c.ranges.v) c.of_bits.type_inv c.of_bits.ensures

second-2 : (c : goal.After-d-2-1) → Told (2 ^ 15) c.of_bits-2.result (low_word c.args.v)
second-2 c =
    low_of _ c.raised-u.ensures (to_z-of_z c.ranges.v) c.of_bits-2.type_inv c.of_bits-2.ensures

second : (c : goal.After-of_bits-2) → Told (2 ^ 15) c.of_bits-2.result (low_word c.args.v)
second c =
    low_of _ c.raised-u.ensures (to_z-of_z c.ranges.v) c.of_bits-2.type_inv c.of_bits-2.ensures

pub put_word-requires : goal.put_word-requires
put_word-requires c = (first c).1

pub put_word-requires-2 : goal.put_word-requires-2
put_word-requires-2 c = (second c).1

pub returns : goal.returns
unfolding with_pair
returns c =
    let a = c.args in
    c.put_word-2.ensures
    ∙ ap₂ (λ (l : List ℤ) (y : ℤ). set l (a.i + 1) y)
    (c.put_word.ensures ∙ ap (λ (y : ℤ). set a.d.now a.i y) (first c.before.before.before.before.before.before).0)
    (second-2 c).0
