-- What comes of a job: it is refused, by a number with its record, at a line and another; or it is done: so many moves.
use Rattle.std.specs.Prelude.{ℕ, Result, Ok, Err}
use Rattle.jobs.specs.declared.JobRefusal.{JobRefusal}

abbrev pub Jobbed : Type 0
Jobbed = Result ℕ JobRefusal

pattern abbrev pub Done : ℕ → Jobbed
Done n = Ok n

abbrev pub Refused : ℕ → ℕ → ℕ → ℕ → Jobbed
Refused m k i j = Err (record { number = m; at = k; line = i; other = j })
