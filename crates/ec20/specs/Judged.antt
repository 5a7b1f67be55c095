-- A judgement: no fault, or a refusal, by its number with the record that is told.
use Rattle.std.specs.Prelude.{ℕ, Result, Ok, Err}
use Rattle.ec20.specs.declared.Refusal.{Refusal}

abbrev pub refusal : ℕ → ℕ → Refusal
refusal n k = record { number = n; at = k }

abbrev pub Judged : Type 0
Judged = Result Unit Refusal

pattern abbrev pub Fine : Judged
Fine = Ok tt

abbrev pub Fault : ℕ → ℕ → Judged
Fault n k = Err (refusal n k)
