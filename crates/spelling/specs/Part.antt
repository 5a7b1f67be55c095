-- A number with a byte behind it, as the parts of a line are.
use Rattle.std.specs.Prelude.{ℕ, ◌+◌, List, eqb, Some}
use Rattle.ec20.specs.Basics.{pick}
use Rattle.units.specs.Spelling.{byte_in, number_at}
use Rattle.units.specs.Number.{Number, Misspelt, Spelt}

-- a number that was read, with the byte b behind it: the place after both
abbrev pub part_by : List ℕ → ℕ → Number → Number
part_by s b Misspelt = Misspelt
part_by s b (Some w) = pick (eqb (byte_in s w.next) b) (Spelt w.value (w.next + 1)) Misspelt

-- the number at a place of a text, `most` at most, with the byte b behind it
unfoldable pub part_at : List ℕ → ℕ → ℕ → ℕ → Number
part_at s from most b = part_by s b (number_at s from most)
