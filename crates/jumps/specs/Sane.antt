-- What bounds a scan's state, for any program: the record due and the records loops begin again at are at most one past the program's end,
-- and at most eight loops are open.
use Rattle.std.specs.Prelude.{ℕ, ◌+◌, ◌≤◌, ◌≡◌, get_or, length}
use Rattle.ec20.specs.Code.{Program}
use Rattle.ec20.specs.Devices.{deepest}
use Rattle.ec20.specs.Step.{World}

pub record Sane (p : Program) (w : World) : Type 0 where
  pub due : w.st.pc ≤ p.count + 1
  pub room : w.st.depth ≤ deepest
  pub passes : length w.loops.left ≡ deepest
  pub places : length w.loops.back ≡ deepest
  pub backs : (j : ℕ) → get_or w.loops.back j 0 ≤ p.count + 1
