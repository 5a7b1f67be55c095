-- How many entries of a table a case lends, and an answer as a case has it.
use Rattle.std.specs.Prelude.{ℕ, ◌+◌, ◌-◌, min, Bool, not, ◌&&◌, ◌||◌, eqb, leb, Err}
use Rattle.ec20.specs.Basics.{pick}
use Rattle.ec20.specs.declared.Report.{Report}
use Rattle.ec20.specs.Scanned.{Scanned}
use Rattle.ec20.specs.Scanned.{Ended, Watchdog}
use Rattle.vectors_scans.specs.declared.judge.Answer.{Answer}

-- "0 one entry short .., 1 empty, 2 one entry more": of a table that has so many
abbrev pub wrong_size : ℕ → ℕ → ℕ
wrong_size way full = pick (eqb way 0) (full - 1) (pick (eqb way 1) 0 (full + 1))

-- how much of table k is lent, where table t is lent in a wrong size: never more than there is
unfoldable pub lent_of : ℕ → ℕ → ℕ → ℕ → ℕ → ℕ
lent_of t way k full most = min (pick (eqb t k) (wrong_size way full) full) most

-- the numbers of a scan that was run: it ended (1), or was stopped by the watchdog (2)
abbrev pub ran : ℕ → Report → Answer
ran kind r = record { number = 0; told = 0; kind = kind; steps = r.steps; stop = r.stop; error = r.error; at = r.at }

-- the numbers of an answer
abbrev pub told_by : Scanned → Answer
told_by (Ended r) = ran 1 r
told_by (Watchdog r) = ran 2 r
told_by (Err r) = record { number = r.number; told = r.at; kind = 0; steps = 0; stop = 0; error = 0; at = 0 }

-- whether a scan without a budget answers the same: 200,000 is the budget, or the answer does not hang on it, since the call is refused or the
-- scan ended within so many steps
abbrev pub plain_too : Answer → ℕ → Bool
plain_too w budget = eqb budget 200000 || (not (eqb w.kind 2) && leb w.steps 200000)
