-- The bytes that a move may change.
use Rattle.std.specs.Prelude.{ℕ, ◌+◌, ◌*◌, ◌<◌, ◌≤◌, true, List, ◌≡◌}
use Rattle.ec20.specs.File.{first_of, count_of, operand_at}
use Rattle.ec20.specs.Move.{Block}
use Rattle.ec20.specs.Operands.{in_d, start_of}

-- byte x of the file is byte t of a D number in the block: that of operand m of record k
pub record InNumber (b : Block) (f : List ℕ) (x : ℕ) : Type 0 where
  pub k : ℕ
  pub m : ℕ
  pub t : ℕ
  pub of_records : k < count_of f
  pub of_operands : m < 3
  pub of_bytes : t < 4
  pub at : x ≡ first_of f + k * 20 + 2 + m * 6 + 2 + t
  pub in_D : in_d (operand_at f (first_of f + k * 20 + 2 + m * 6)) ≡ true
  pub from : b.start ≤ start_of (operand_at f (first_of f + k * 20 + 2 + m * 6))
  pub to : start_of (operand_at f (first_of f + k * 20 + 2 + m * 6)) < b.start + b.length
