-- What the walker of a sequence gives: it is done, before a record, after so many steps; or a record is bad.
use Rattle.std.specs.Prelude.{ℕ, Result, Ok, Err}
use Rattle.ec20.specs.declared.Walk.{Walk}

abbrev pub Walked : Type 0
Walked = Result Walk ℕ

abbrev pub Done : ℕ → ℕ → Walked
Done m w = Ok (record { next = m; steps = w })

pattern abbrev pub Bad : ℕ → Walked
Bad k = Err k
