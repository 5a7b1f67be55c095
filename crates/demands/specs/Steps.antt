-- Steps of a scan, counted out.
use Rattle.std.specs.Prelude.{ℕ, zero, suc, ◌≤◌, ◌<◌, ◌≡◌}
use Rattle.ec20.specs.declared.Machine.{Machine}
use Rattle.ec20.specs.declared.Report.{Report}
use Rattle.ec20.specs.Scanned.{Scanned}
use Rattle.ec20.specs.Scanned.{Ended, Watchdog}
use Rattle.ec20.specs.declared.Units.{Units}
use Rattle.ec20.specs.Code.{Program}
use Rattle.ec20.specs.Devices.{Device}
use Rattle.ec20.specs.Flow.{not_yet, reached}
use Rattle.ec20.specs.Memory.{Memory}
use Rattle.ec20.specs.Plant.{Plant, units_in, rest_after}
use Rattle.ec20.specs.Step.{World, step_of}
use Rattle.ec20.specs.Scan.{Scan, start_world}

-- the world after k steps of the definition, from the start of a scan on the memory c of a device, in which timers are given the units u
unfoldable pub after_steps : Device → Program → Units → Memory → ℕ → World
after_steps v p u c zero = start_world v c
after_steps v p u c (suc k) = step_of p u (after_steps v p u c k)

-- so, of a scan of e elapsed milliseconds on the memory and leftovers q
abbrev pub scan_after : Device → Program → ℕ → Plant → ℕ → World
scan_after v p e q k = after_steps v p (units_in e q.rest) q.mem k

-- "the steps, the record stopped at (END, or the one due), and the first error with its record"
abbrev pub report_of : ℕ → Machine → Report
report_of k s = record { steps = k; stop = s.pc; error = s.error; at = s.at }

-- the answer after k steps of a budget of b: ended, if END was executed; watchdog, if the budget is used and a record is due
pub data Answer (b k : ℕ) (s : Machine) : Scanned → Type 0 where
  ended : s.ended ≡ reached → Answer b k s (Ended (report_of k s))
  watchdog : s.ended ≡ not_yet → k ≡ b → Answer b k s (Watchdog (report_of k s))

-- The scan s is a run of so many steps of the definition: none is made after END, none beyond the budget b, and answer and memory are as
-- "after exactly those steps".
pub record Counted (v : Device) (p : Program) (e b : ℕ) (q : Plant) (s : Scan) : Type 0 where
  pub steps : ℕ
  pub in_budget : steps ≤ b
  pub before : (j : ℕ) → j < steps → (scan_after v p e q j).st.ended ≡ not_yet
  pub answer : Answer b steps (scan_after v p e q steps).st s.answer
  pub memory : s.plant.mem ≡ (scan_after v p e q steps).mem
  -- "Leftovers are set before record 0, even with budget 0.": whatever the steps
  pub leftovers : s.plant.rest ≡ rest_after e q.rest
