-- A run from record 0 on, over a memory in which SM0 is as it is: a scan turns it on first.
use Rattle.std.specs.Prelude.{ℕ, replicate}
use Rattle.ec20.specs.Code.{Program}
use Rattle.ec20.specs.Devices.{deepest}
use Rattle.ec20.specs.Memory.{Memory}
use Rattle.ec20.specs.Scan.{Ran, run_of, reported, start_state}
use Rattle.ec20.specs.Step.{open_loops, world}
use Rattle.ec20.specs.declared.Machine.{Machine}
use Rattle.ec20.specs.declared.Report.{Report}
use Rattle.ec20.specs.declared.Units.{Units}

unfoldable pub ran_from : Program → Units → ℕ → Memory → Ran
ran_from p u budget c = reported (run_of p u budget 0 (world c (open_loops (replicate deepest 0) (replicate deepest 0)) start_state))

-- what a scan tells after k steps: the record stopped at, and the first error with its record
abbrev pub report_of : ℕ → Machine → Report
report_of k s = record { steps = k; stop = s.pc; error = s.error; at = s.at }
