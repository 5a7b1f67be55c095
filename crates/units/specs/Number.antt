-- A number in a text: not spelt as it must be; or its value, and the place after it.
use Rattle.std.specs.Prelude.{ℕ, Option, Some, None}
use Rattle.units.specs.declared.Digits.{Digits}

abbrev pub Number : Type 0
Number = Option Digits

pattern abbrev pub Misspelt : Number
Misspelt = None

abbrev pub Spelt : ℕ → ℕ → Number
Spelt v e = Some (record { value = v; next = e })
