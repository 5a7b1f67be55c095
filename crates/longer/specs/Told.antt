-- What a host is told of the part that is handed back: whose first line it is, 1 or 2 (0: nothing), and how many bytes it has.
use Rattle.std.specs.Prelude.{ℕ, ◌≤◌, Option, Some, None, List, length}
use Rattle.longer.specs.declared.Part.{Part}
use Rattle.longer.specs.declared.Part.TheVariants.{First, Second}
use Rattle.units.specs.Text.{ToldLonger, told_longer}

abbrev pub told_by_part : Option Part → ToldLonger
told_by_part None = told_longer 0 0
told_by_part (Some (First n)) = told_longer 1 n
told_by_part (Some (Second n)) = told_longer 2 n

-- the part lies within its text
abbrev pub PartWithin : List ℕ → List ℕ → Option Part → Type 0
PartWithin a b None = Unit {0}
PartWithin a b (Some (First n)) = n ≤ length a
PartWithin a b (Some (Second n)) = n ≤ length b
