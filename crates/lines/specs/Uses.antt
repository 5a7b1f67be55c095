-- "some record's source extent holds it", "a target extent does": word i is one of the words in D of some record's operand, at a place that is used
-- so.
use Rattle.std.specs.Prelude.{ℕ, ◌+◌, ◌≤◌, ◌<◌, Bool, true, ◌≡◌}
use Rattle.ec20.specs.File.{Records}
use Rattle.ec20.specs.Operands.{in_d, start_of, extent_of}
use Rattle.ec20.specs.declared.Operand.{Operand}
use Rattle.ec20.specs.declared.Place.{Place}
use Rattle.refusals.specs.Records.{OperandAt}

pub record Uses (used : Place → Bool) (rs : Records) (i : ℕ) : Type 0 where
  pub at : ℕ
  pub there : at < rs.count
  pub place : Place
  pub operand : Operand
  pub is : OperandAt (rs.at at) place operand
  pub role : used place ≡ true
  pub in_D : in_d operand ≡ true
  pub from : start_of operand ≤ i
  pub to : i < start_of operand + extent_of place operand
