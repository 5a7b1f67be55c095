-- What is held of a unit list that was read: the judgement, and the first 64 declarations by value.
use Rattle.std.specs.Prelude.{ℕ, ◌+◌, ◌<◌, ◌≤◌, List, ltb, length, set, replicate, Some}
use Rattle.ec20.specs.Basics.{pick}
use Rattle.units.specs.Kept.{first_of}
use Rattle.units.specs.Reading.{Read}
use Rattle.units.specs.declared.Declaration.{Declaration}
use Rattle.units.specs.declared.Table.{Table}
use Rattle.units.specs.UnitLine.{UnitLine}
use Rattle.units.specs.UnitLine as U
use Rattle.unit_texts.specs.declared.Units.{Units}

-- an entry that holds nothing: all zeros
abbrev pub nothing : Declaration
nothing = record { unit = 0; name = replicate 8 0; start = 0; length = 0 }

-- the table of a list: its first 64, filled up with entries that hold nothing
unfoldable pub table_of : List Declaration → Table
table_of ds = record { at = first_of 64 nothing ds }

-- a declaration put at a place of a table, and left out past its 64 places
unfoldable pub put_of : Table → ℕ → Declaration → Table
put_of t i d = pick (ltb i 64) (record { at = set t.at i d }) t

-- a line of a text of n bytes, which begins at a place: how large its numbers are, and that its name and its end stand in the text, after that place
abbrev pub UnitIn : ℕ → ℕ → UnitLine → Type 0
UnitIn n from U.Misspelt = Unit {0}
UnitIn n from (Some w) = (w.unit ≤ 65535) × (w.name + 8 ≤ n) × (w.start ≤ 4294967295) × (w.length ≤ 4294967295) × (from < w.next) × (w.next ≤ n)

-- what is held of what was read
unfoldable pub held_of : Read Declaration → Units
held_of r = record { fault = r.fault; count = length r.list; table = table_of r.list }
