-- What comes of a frame: the call is refused by 9 or 16; nothing is sent; or a reply of so many bytes is.
use Rattle.std.specs.Prelude.{ℕ, Option, Some, None, Result, Ok, Err}
use Rattle.ec20.specs.Judged.{refusal}
use Rattle.ec20.specs.declared.Refusal.{Refusal}

abbrev pub Answered : Type 0
Answered = Result (Option ℕ) Refusal

pattern abbrev pub Silent : Answered
Silent = Ok None

pattern abbrev pub Reply : ℕ → Answered
Reply n = Ok (Some n)

abbrev pub Refused : ℕ → ℕ → Answered
Refused n k = Err (refusal n k)
