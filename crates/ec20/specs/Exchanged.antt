-- What the exchange answers: done, or refused.
use Rattle.std.specs.Prelude.{ℕ, Result, Ok, Err}
use Rattle.ec20.specs.Judged.{refusal}
use Rattle.ec20.specs.declared.Refusal.{Refusal}

abbrev pub Exchanged : Type 0
Exchanged = Result Unit Refusal

pattern abbrev pub Done : Exchanged
Done = Ok tt

abbrev pub Refused : ℕ → ℕ → Exchanged
Refused n k = Err (refusal n k)
