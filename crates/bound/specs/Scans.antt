-- What is promised of a whole scan.
use Rattle.std.specs.Prelude.{ℕ, ◌+◌, ◌≤◌, false, ◌≡◌}
use Rattle.ec20.specs.declared.Control.TheVariants.{Jumps}
use Rattle.ec20.specs.declared.Report.{Report}
use Rattle.ec20.specs.Scanned.{Scanned}
use Rattle.ec20.specs.Scanned.{Ended}
use Rattle.ec20.specs.declared.Units.{Units}
use Rattle.ec20.specs.Code.{Program}
use Rattle.ec20.specs.Control.{controls_of}
use Rattle.ec20.specs.Flow.{is_on}
use Rattle.ec20.specs.Step.{World}
use Rattle.ec20.specs.Scan.{run_of}

-- no jump is taken on the way from the world w: wherever a CJ is due, flow is not on
abbrev pub Quiet : Program → Units → World → Type 0
Quiet p u w = (n l : ℕ) → controls_of p (run_of p u n 0 w).after.st.pc ≡ Jumps l → is_on (run_of p u n 0 w).after.st ≡ false

-- the answer is "ended", after at most w steps, stopped at the last of n records
pub record EndsIn (a : Scanned) (n w : ℕ) : Type 0 where
  pub report : Report
  pub answer : a ≡ Ended report
  pub few : report.steps ≤ w
  pub last : report.stop + 1 ≡ n
