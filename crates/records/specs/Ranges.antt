-- The ranges of what is read from a file: a byte is below 256, a number of four bytes below 2 ^ 32; and what a whole frame means for the
-- file's length.
use Rattle.std.specs.Prelude.{ℕ, ◌+◌, ◌*◌, ◌<◌, ◌≤◌, ◌^◌, Some}
use Rattle.ec20.specs.declared.Operand.{Operand}
use Rattle.ec20.specs.declared.Rec.{Rec}
use Rattle.ec20.specs.Frame.{Frame}
use Rattle.ec20.specs.Frame.{Broken}

pub record Small (o : Operand) : Type 0 where
  pub kind : o.kind < 256
  pub group : o.group < 256
  pub value : o.value < 2 ^ 32

pub record SmallRec (r : Rec) : Type 0 where
  pub number : r.number < 256
  pub first : Small r.first
  pub second : Small r.second
  pub third : Small r.third

-- `count` records from the byte `first` on lie in a file of n bytes, ahead of a trailer: all of its records, or some that follow each other.
-- They end where at most 4,096 bytes of comment and 2,000 records do.
pub record Held (n first count : ℕ) : Type 0 where
  pub whole : first + 20 * count + 8 ≤ n
  pub some : 0 < count
  pub most : count ≤ 2000
  pub near : first + 20 * count ≤ 44096

abbrev pub Fits : ℕ → Frame → Type 0
Fits n (Some w) = Held n w.first w.count
Fits n Broken = Unit {0}
