-- A declaration in a text: not spelt as it must be; or the start and the length of its block, and the place after its line feed.
use Rattle.std.specs.Prelude.{ℕ, Option, Some, None}
use Rattle.units.specs.declared.Line.{Line as SpeltLine}

abbrev pub Line : Type 0
Line = Option SpeltLine

pattern abbrev pub Misspelt : Line
Misspelt = None

abbrev pub Spelt : ℕ → ℕ → ℕ → Line
Spelt a n e = Some (record { start = a; length = n; next = e })
