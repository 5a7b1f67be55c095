-- What the mover answers: the start of the place that the block went to; or refused.
use Rattle.std.specs.Prelude.{ℕ, Result, Ok, Err}
use Rattle.ec20.specs.Judged.{refusal}
use Rattle.ec20.specs.declared.Refusal.{Refusal}

abbrev pub Moved : Type 0
Moved = Result ℕ Refusal

pattern abbrev pub To : ℕ → Moved
To q = Ok q

abbrev pub Refused : ℕ → ℕ → Moved
Refused n k = Err (refusal n k)
