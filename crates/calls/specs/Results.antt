-- What came of a call.
use Rattle.std.specs.Prelude.{◌≡◌, ℕ, Bool, ◌⊎◌, Result, Ok, Err}
use Rattle.calls.specs.declared.results.Outcome.{Outcome}
use Rattle.calls.specs.declared.results.Status.TheVariants.{Answered, Refused, NotTried}
use Rattle.calls.specs.declared.results.Status.{Status}

-- the status as a program's caller is told it: 0 of a call that was answered, 1 of one that was refused, or found to differ, 2 of one that was not tried
abbrev pub number_of_status : Status → ℕ
number_of_status Answered = 0
number_of_status Refused = 1
number_of_status NotTried = 2

-- "written: whether all of the answer was. Where it was not, .. the answer counts for nothing": it is as one that was not tried
abbrev pub status_by : {A E : Type 0} → Result A E → Status → Status
status_by (Ok a) status = status
status_by (Err e) status = NotTried

-- an answer of this status that was told, or else was not; whether a file was replaced does not go by that
abbrev pub Answers : Status → Bool → Outcome → Type 0
Answers status replaced r = ((r.status ≡ status) ⊎ (r.status ≡ NotTried)) × (r.replaced ≡ replaced)
