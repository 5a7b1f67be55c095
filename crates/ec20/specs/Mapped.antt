-- What the use map answers: two maps of the D words; or refused.
use Rattle.std.specs.Prelude.{ℕ, List, Result, Ok, Err}
use Rattle.ec20.specs.Judged.{refusal}
use Rattle.ec20.specs.declared.Refusal.{Refusal}
use Rattle.ec20.specs.declared.UseMap.{UseMap}

abbrev pub Mapped : Type 0
Mapped = Result UseMap Refusal

abbrev pub Maps : List ℕ → List ℕ → Mapped
Maps r w = Ok (record { read = r; written = w })

abbrev pub Refused : ℕ → ℕ → Mapped
Refused n k = Err (refusal n k)
