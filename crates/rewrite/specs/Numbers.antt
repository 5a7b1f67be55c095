-- A number of four bytes put into a file.
use Rattle.std.specs.Prelude.{ℕ, ◌+◌, ◌<◌, ◌≤◌, ◌^◌, List, set}
use Rattle.ec20.specs.Move.{byte_of}

-- the file with v in the four bytes at i, the lowest first
unfoldable pub with_u32 : List ℕ → ℕ → ℕ → List ℕ
with_u32 f i v = set (set (set (set f i (byte_of v 0)) (i + 1) (byte_of v 1)) (i + 2) (byte_of v 2)) (i + 3) (byte_of v 3)

-- block and place lie among the numbers of four bytes
pub record Below (s n q : ℕ) : Type 0 where
  pub start : s < 2 ^ 32
  pub length : n < 2 ^ 32
  pub place : q + n ≤ 2 ^ 32
