-- A line of a unit list: not spelt as it must be; or its unit, the place of its name, the start and the length of its block, and the place after its line
-- feed.
use Rattle.std.specs.Prelude.{ℕ, Option, Some, None}
use Rattle.units.specs.declared.UnitLine.{UnitLine as SpeltLine}

abbrev pub UnitLine : Type 0
UnitLine = Option SpeltLine

pattern abbrev pub Misspelt : UnitLine
Misspelt = None

abbrev pub Spelt : ℕ → ℕ → ℕ → ℕ → ℕ → UnitLine
Spelt u p a n e = Some (record { unit = u; name = p; start = a; length = n; next = e })
