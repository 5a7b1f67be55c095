-- What comes of a list: it is refused by 10 or 16; or the report has so many clashes.
use Rattle.std.specs.Prelude.{ℕ, Result, Ok, Err}
use Rattle.ec20.specs.Judged.{refusal}
use Rattle.ec20.specs.declared.Refusal.{Refusal}

abbrev pub Clashed : Type 0
Clashed = Result ℕ Refusal

pattern abbrev pub Clashes : ℕ → Clashed
Clashes n = Ok n

abbrev pub Refused : ℕ → ℕ → Clashed
Refused n k = Err (refusal n k)
