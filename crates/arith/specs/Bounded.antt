-- What the engine leans on where it stores an outcome: the values fit the width of range -h to h - 1, the error is none, 1 or 2, and each number of one
-- bit is 0 or 1.
use Rattle.std.specs.Prelude.{ℕ, ◌<◌, ◌≤◌}
use Rattle.std.specs.Int.Signed.{mag}
use Rattle.ec20.specs.declared.Outcome.{Outcome}

pub record Bounded (h : ℕ) (r : Outcome) : Type 0 where
  pub value_fits : mag r.value < h
  pub second_fits : mag r.second < h
  pub error_known : r.error ≤ 2
  pub two_bit : r.two < 2
  pub flags_bit : r.flags < 2
  pub zero_bit : r.zero < 2
  pub above_bit : r.above < 2
  pub below_bit : r.below < 2
