-- What a search gives: at a record, or nowhere.
use Rattle.std.specs.Prelude.{ℕ, Option, Some, None}

abbrev pub Found : Type 0
Found = Option ℕ

pattern abbrev pub At : ℕ → Found
At k = Some k

pattern abbrev pub Nowhere : Found
Nowhere = None
