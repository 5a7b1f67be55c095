-- THE ENTRY WITHOUT A BUDGET. Document 02, (vi): "The scan entry without a budget now uses 200,000. Trial jobs that relied on the old figure must name
-- 1,000,000 themselves and give the same answers as before".
use Rattle.std.specs.Prelude.{ℕ, ◌≤◌, ◌<◌, List, ◌≡◌}
use Rattle.ec20.specs.declared.Report.{Report}
use Rattle.ec20.specs.Scanned.{Scanned}
use Rattle.ec20.specs.Scanned.{Ended, Watchdog, Refused}
use Rattle.ec20.specs.Verdict.{Accepted}
use Rattle.ec20.specs.Check.{check_of}
use Rattle.ec20.specs.Devices.{Device, ec20}
use Rattle.ec20.specs.Plant.{Plant}
use Rattle.ec20.specs.Scan.{scan_for, scan_of, plain_scan}
use Rattle.bound.specs.Scans.{EndsIn}
use Rattle.demands.specs.Lines.{Not9}

-- What a budget is to the scans of any file f on a device v; for every elapsed time e, and memory and leftovers q.
pub record Budgets (v : Device) (f : List ℕ) : Type 0 where
  -- a scan that ended is the same, answer, memory and leftovers, with every budget of as many steps as it made, or more
  pub ended_stays : (e b b' : ℕ) (q : Plant) (r : Report) → (scan_for v f e b q).answer ≡ Ended r → r.steps ≤ b' → scan_for v f e b' q ≡ scan_for v f e b q
  -- and a refused one whatever the budget
  pub refused_stays : (e b b' : ℕ) (q : Plant) (m k : ℕ) → (scan_for v f e b q).answer ≡ Refused m k → scan_for v f e b' q ≡ scan_for v f e b q

-- the answer is "watchdog", after just so many steps
pub record StoppedAfter (a : Scanned) (k : ℕ) : Type 0 where
  pub report : Report
  pub answer : a ≡ Watchdog report
  pub steps : report.steps ≡ k

-- THE LAW, of every file f: scans of it with the entry that takes no budget.
pub record WithoutBudget (f : List ℕ) : Type 0 where
  -- Where f is accepted with W at most 200,000 it never ends in the watchdog: it ends at END, the last of n records, in at most W steps,
  pub no_watchdog : (n w : ℕ) → check_of f ≡ Accepted n w → w ≤ 200000 → (e : ℕ) (q : Plant) (r : Report) → (plain_scan f e q).answer ≡ Watchdog r → ⊥
  pub ends : (n w : ℕ) → check_of f ≡ Accepted n w → w ≤ 200000 → (e : ℕ) (q : Plant) → Not9 ec20 e q → EndsIn (plain_scan f e q).answer n w
  -- and with a budget of W or more, so with 1,000,000 too, answer, memory and leftovers are the same: there it is as before.
  pub as_before : (n w : ℕ) → check_of f ≡ Accepted n w → w ≤ 200000 → (e b : ℕ) (q : Plant) → w ≤ b → plain_scan f e q ≡ scan_of f e b q
  -- Whatever W: a scan that needs 200,000 steps or fewer, by whatever budget that is seen, is the same without one;
  pub needs_no_more : (e b : ℕ) (q : Plant) (r : Report) → (scan_of f e b q).answer ≡ Ended r → r.steps ≤ 200000 → plain_scan f e q ≡ scan_of f e b q
  -- one that needs more is stopped after just 200,000.
  pub needs_more : (e b : ℕ) (q : Plant) (r : Report) → (scan_of f e b q).answer ≡ Ended r → 200000 < r.steps → StoppedAfter (plain_scan f e q).answer 200000
