-- DEMAND 2. "A scan of an accepted program leaves the memory, flags, errors and step count that document 01 states. It makes at most W steps.
-- No scan changes WORK, D7900 to D7999." And with requests (document 02): "WORK now reads: changed by no scan and no request."
use Rattle.std.specs.Prelude.{ℕ, ◌*◌, ◌/◌, ◌≤◌, ◌<◌, List, ◌⊎◌, ◌≡◌}
use Rattle.ec20.specs.declared.Report.{Report}
use Rattle.ec20.specs.Scanned.{Scanned}
use Rattle.ec20.specs.Scanned.{Ended, Watchdog}
use Rattle.ec20.specs.Answers.{told_by_map}
use Rattle.ec20.specs.Bits.{bit_at}
use Rattle.ec20.specs.Code.{program_of}
use Rattle.ec20.specs.Devices.{Device, ec20}
use Rattle.ec20.specs.Plant.{Plant, units_in}
use Rattle.ec20.specs.Registers.{word_at}
use Rattle.ec20.specs.Scan.{start_world, scan_for}
use Rattle.ec20.specs.UseMap.{map_for}
use Rattle.bound.specs.Scans.{Quiet, EndsIn}
use Rattle.demands.specs.Events.{Event, after_events}
use Rattle.demands.specs.Lines.{Work, Not9}
use Rattle.demands.specs.Named.{Filled}
use Rattle.demands.specs.Steps.{scan_after, Counted}
use Rattle.demands.specs.Total.{Sound}

-- ended or watchdog, with this report
abbrev pub Reports : Scanned → Report → Type 0
Reports a r = (a ≡ Ended r) ⊎ (a ≡ Watchdog r)

-- the answer is "ended", after just w steps
pub record EndsAfter (a : Scanned) (w : ℕ) : Type 0 where
  pub report : Report
  pub answer : a ≡ Ended report
  pub steps : report.steps ≡ w

-- The scans, on a device v, of a file f that is accepted there with n records and W = w; for every elapsed time e, budget b, and memory and
-- leftovers q.
pub record Scans (v : Device) (f : List ℕ) (n w : ℕ) : Type 0 where
  -- "leaves the memory, flags, errors and step count that document 01 states": it is as many steps of the definition as it tells, and the
  -- memory, in which the flags are, the first error and the record stopped at are as after exactly those steps
  pub counted : (e b : ℕ) (q : Plant) → Not9 v e q → Counted v (program_of f) e b q (scan_for v f e b q)
  -- and at each record that it executes document 01 gives a meaning: flow, stacks, loops and jumps are as the record needs them, and its operands lie
  -- in the tables
  pub total : (e b : ℕ) (q : Plant) (h : Not9 v e q) (j : ℕ) → j < (counted e b q h).steps → Sound v (program_of f) (scan_after v (program_of f) e q j)
  -- the record stopped at is one of the program's
  pub stops_inside : (e b : ℕ) (q : Plant) (r : Report) → Reports (scan_for v f e b q).answer r → r.stop < n
  -- "It makes at most W steps."
  pub at_most_w : (e b : ℕ) (q : Plant) (r : Report) → Reports (scan_for v f e b q).answer r → r.steps ≤ w
  -- so a budget of W is enough: it ends at END, the last record, and never in the watchdog
  pub w_is_enough : (e b : ℕ) (q : Plant) → Not9 v e q → w ≤ b → EndsIn (scan_for v f e b q).answer n w
  pub no_watchdog : (e b : ℕ) (q : Plant) → w ≤ b → (r : Report) → (scan_for v f e b q).answer ≡ Watchdog r → ⊥
  -- "W of a body is the sum over its records ..": where no jump is taken it makes just W, so that W is not only above every scan
  pub exactly_w : (e b : ℕ) (q : Plant) → Not9 v e q → w ≤ b → Quiet (program_of f) (units_in e q.rest) (start_world v q.mem)
      → EndsAfter (scan_for v f e b q).answer w
  -- "No scan changes WORK, D7900 to D7999."
  pub work : (e b : ℕ) (q : Plant) (i : ℕ) → Work v i → word_at (scan_for v f e b q).plant.mem.d i ≡ word_at q.mem.d i
  -- "A word not marked written is changed by no scan.": of the words, a multiple of eight, each has its bit
  pub unmarked : (e b : ℕ) (q : Plant) (i : ℕ) → i < 8 * (v.words / 8) → bit_at (told_by_map v (map_for v f)).written i ≡ 0
      → word_at (scan_for v f e b q).plant.mem.d i ≡ word_at q.mem.d i

-- THE DEMAND, of a file f that the EC20 accepts with n records and W = w: the theorem is `check_of f ≡ Accepted n w → Demand2 f n w`.
pub record Demand2 (f : List ℕ) (n w : ℕ) : Type 0 where
  pub scans : Scans ec20 f n w
  -- the EC20's bits fill their bytes, so that `total` says it of its operands
  pub filled : Filled ec20
  -- "changed by no scan and no request": over any series of scans and requests
  pub work_series : (q : Plant) (es : List Event) (i : ℕ) → Work ec20 i → word_at (after_events f q es).mem.d i ≡ word_at q.mem.d i
