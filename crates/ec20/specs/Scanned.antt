-- What a scan answers: it ended, or the watchdog stopped it, with the report; or it is refused.
use Rattle.std.specs.Prelude.{ℕ, Result, Ok, Err}
use Rattle.ec20.specs.Judged.{refusal}
use Rattle.ec20.specs.declared.Refusal.{Refusal}
use Rattle.ec20.specs.declared.Report.{Report}
use Rattle.ec20.specs.declared.Stop.{Stop}
use Rattle.ec20.specs.declared.Stop.TheVariants.{Ended as StopEnded, Watchdog as StopWatchdog}

abbrev pub Scanned : Type 0
Scanned = Result Stop Refusal

pattern abbrev pub Ended : Report → Scanned
Ended r = Ok (StopEnded r)

pattern abbrev pub Watchdog : Report → Scanned
Watchdog r = Ok (StopWatchdog r)

abbrev pub Refused : ℕ → ℕ → Scanned
Refused n k = Err (refusal n k)
