-- What the check answers: accepted, with the count of records and W; or refused.
use Rattle.std.specs.Prelude.{ℕ, Result, Ok, Err}
use Rattle.ec20.specs.Judged.{refusal}
use Rattle.ec20.specs.declared.Accepted.{Accepted as AcceptedFile}
use Rattle.ec20.specs.declared.Refusal.{Refusal}

abbrev pub Verdict : Type 0
Verdict = Result AcceptedFile Refusal

abbrev pub Accepted : ℕ → ℕ → Verdict
Accepted n w = Ok (record { records = n; steps = w })

abbrev pub Refused : ℕ → ℕ → Verdict
Refused n k = Err (refusal n k)
