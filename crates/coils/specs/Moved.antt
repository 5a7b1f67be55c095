-- Bits that are moved by whole bytes.
use Rattle.std.specs.Prelude.{ℕ, zero, suc, ◌+◌, ◌*◌, List, set}
use Rattle.ec20.specs.Bits.{packed}

-- the table `to` with k bytes from byte `at` on that take eight bits each, from bit number i of the table `from` on
unfoldable pub bytes_moved : List ℕ → ℕ → List ℕ → ℕ → ℕ → List ℕ
bytes_moved to at from i zero = to
bytes_moved to at from i (suc k) = set (bytes_moved to at from i k) (at + k) (packed from (i + 8 * k) 8)
