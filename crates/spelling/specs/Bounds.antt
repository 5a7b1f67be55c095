-- What else is known of a number or a declaration that was read: how large its numbers are, and where it ends.
use Rattle.std.specs.Prelude.{ℕ, ◌+◌, ◌<◌, ◌≤◌, Some}
use Rattle.units.specs.Number.{Number}
use Rattle.units.specs.Number as N
use Rattle.units.specs.Line.{Line}
use Rattle.units.specs.Line as L

-- a number read at a place: `most` at most, and of one digit at least and eleven at most
abbrev pub NumberIn : ℕ → ℕ → Number → Type 0
NumberIn from most N.Misspelt = Unit {0}
NumberIn from most (Some w) = (w.value ≤ most) × (from < w.next) × (w.next ≤ from + 11)

-- such a number with a byte behind it, in a text of n bytes: how large it is, and that its end stands in the text, after the place
abbrev pub PartIn : ℕ → ℕ → ℕ → Number → Type 0
PartIn n from most N.Misspelt = Unit {0}
PartIn n from most (Some w) = (w.value ≤ most) × (from < w.next) × (w.next ≤ n)

-- a line read at a place of a text of n bytes: start and length are `most` at most, its name and the blank after it stand in the text, and so does the
-- line's end, after them
abbrev pub LineIn : ℕ → ℕ → ℕ → Line → Type 0
LineIn n from most L.Misspelt = Unit {0}
LineIn n from most (Some w) = (w.start ≤ most) × (w.length ≤ most) × (from + 8 < w.next) × (w.next ≤ n)
