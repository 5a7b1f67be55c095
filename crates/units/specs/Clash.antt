-- "Take a short lent list of declarations, each a record of unit number, block name of eight bytes, start and length": when two of them clash.
use Rattle.std.specs.Prelude.{ℕ, zero, suc, Bool, true, not, ◌&&◌, List, [], length, get_or, eqb}
use Rattle.ec20.specs.Basics.{pick}
use Rattle.ec20.specs.Devices.{meets}
use Rattle.units.specs.declared.Declaration.{Declaration}
use Rattle.units.specs.declared.Table.{Table}

-- A list: how many declarations it has, and the one at each place, counted from 0.
pub record Declared : Type 0 where
  pub count : ℕ
  pub at : ℕ → Declaration

-- what stands past the end of a list
abbrev pub none : Declaration
none = record { unit = 0; name = []; start = 0; length = 0 }

-- a list that is lent
abbrev pub listed : List Declaration → Declared
listed ds = record { count = length ds; at = λ (i : ℕ). get_or ds i none }

-- a list by value: the first n of a table. One of over 64 is refused before any of them is looked at.
abbrev pub tabled : Table → ℕ → Declared
tabled t n = record { count = n; at = λ (i : ℕ). get_or t.at i none }

-- the first n bytes of two names are the same
unfoldable pub same_to : ℕ → List ℕ → List ℕ → Bool
same_to zero a b = true
same_to (suc n) a b = same_to n a b && eqb (get_or a n 0) (get_or b n 0)

-- "the name is the same": all eight bytes
abbrev pub same_name : Declaration → Declaration → Bool
same_name a b = same_to 8 a.name b.name

-- "start or length differs"
abbrev pub other_block : Declaration → Declaration → Bool
other_block a b = not (eqb a.start b.start && eqb a.length b.length)

-- "the words overlap"
abbrev pub overlap : Declaration → Declaration → Bool
overlap a b = meets a.start a.length b.start b.length

-- "Two declarations clash if the name is the same and start or length differs, or the names differ and the words overlap." The unit's number plays no
-- part.
unfoldable pub clash_of : Declaration → Declaration → Bool
clash_of a b = pick (same_name a b) (other_block a b) (overlap a b)
