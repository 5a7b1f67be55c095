-- What comes of a salvage: refused; or done: so many records kept, so many END records added, and so many bytes of the input after those kept.
use Rattle.std.specs.Prelude.{ℕ, Result, Ok, Err}
use Rattle.ec20.specs.Judged.{refusal}
use Rattle.ec20.specs.declared.Refusal.{Refusal}
use Rattle.torn.specs.declared.Saved.{Saved}

abbrev pub Salvaged : Type 0
Salvaged = Result Saved Refusal

abbrev pub Done : ℕ → ℕ → ℕ → Salvaged
Done n a r = Ok (record { kept = n; added = a; rest = r })

abbrev pub Refused : ℕ → ℕ → Salvaged
Refused n k = Err (refusal n k)
