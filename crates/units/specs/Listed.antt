-- A unit list as text (ours): a line for each declaration, its unit (0 to 65535), blank, and the declaration as in a declaration text, with start and length
-- up to 4294967295, so that 10 is for the list to say. A line that is not so spelt is 15.
use Rattle.std.specs.Prelude.{ℕ, ◌+◌, List, length, take, drop, eqb, Some}
use Rattle.ec20.specs.Basics.{pick}
use Rattle.units.specs.Reading.{Entry, misspelt, spelt, Read, lines_of}
use Rattle.units.specs.Spelling.{blank, byte_in, number_at}
use Rattle.units.specs.Text.{line_at}
use Rattle.units.specs.declared.Declaration.{Declaration}
use Rattle.units.specs.Number.{Number}
use Rattle.units.specs.Number as N
use Rattle.units.specs.Line.{Line}
use Rattle.units.specs.Line as L
use Rattle.units.specs.UnitLine.{UnitLine}
use Rattle.units.specs.UnitLine as U

-- behind the unit u, whose name begins at p
abbrev pub unit_by_line : ℕ → ℕ → Line → UnitLine
unit_by_line u p L.Misspelt = U.Misspelt
unit_by_line u p (Some w) = U.Spelt u p w.start w.length w.next

abbrev pub unit_by_number : List ℕ → Number → UnitLine
unit_by_number s N.Misspelt = U.Misspelt
unit_by_number s (Some w) = pick (eqb (byte_in s w.next) blank) (unit_by_line w.value (w.next + 1) (line_at s (w.next + 1) 4294967295)) U.Misspelt

-- the line of a unit list that begins at a place
unfoldable pub unit_at : List ℕ → ℕ → UnitLine
unit_at s from = unit_by_number s (number_at s from 65535)

-- the declaration of such a line, with its eight name bytes as they are
abbrev pub declaration : List ℕ → ℕ → ℕ → ℕ → ℕ → Declaration
declaration s u p a n = record { unit = u; name = take 8 (drop p s); start = a; length = n }

-- such a line as an entry
abbrev pub entry_of : List ℕ → UnitLine → Entry Declaration
entry_of s U.Misspelt = misspelt
entry_of s (Some w) = spelt (declaration s w.unit w.name w.start w.length) w.next

-- a whole unit list: the first line that is misspelt (15), and the declarations ahead of it
unfoldable pub units_of : List ℕ → Read Declaration
units_of s = lines_of (λ from. entry_of s (unit_at s from)) (length s)
