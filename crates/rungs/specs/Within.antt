-- "Block stack and branch stack hold 8 each": where the rule is kept, neither holds more.
use Rattle.std.specs.Prelude.{◌≤◌}
use Rattle.ec20.specs.Devices.{stack_holds}
use Rattle.ec20.specs.declared.Rung.{Rung}

pub record Within (s : Rung) : Type 0 where
  pub blocks : s.blocks ≤ stack_holds
  pub branches : s.branches ≤ stack_holds
