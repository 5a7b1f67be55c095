-- An exception by its number, 0 where there is none.
use Rattle.std.specs.Prelude.{ℕ, Option, Some, None}
use Rattle.frames.specs.declared.Exception.{Exception}
use Rattle.frames.specs.declared.Exception.TheVariants.{Function, Range, Quantity}

abbrev pub code_of : Option Exception → ℕ
code_of None = 0
code_of (Some Function) = 1
code_of (Some Range) = 2
code_of (Some Quantity) = 3
