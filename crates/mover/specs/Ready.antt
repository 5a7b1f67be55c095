-- What is known once the check has accepted a file, and 10 and 11 refuse neither block nor pool, on a device v.
use Rattle.std.specs.Prelude.{ℕ, ◌+◌, ◌<◌, ◌≤◌, List, ◌≡◌, length}
use Rattle.ec20.specs.Devices.{Device}
use Rattle.ec20.specs.File.{first_of, count_of, records_from}
use Rattle.ec20.specs.Operands.{first_bad}
use Rattle.ec20.specs.Judged.{Fine}
use Rattle.records.specs.Ranges.{Held}

-- the file's own records, none of which 2, 3 or 4 refuses
pub record Checked (v : Device) (f : List ℕ) (first count : ℕ) : Type 0 where
  pub held : Held (length f) first count
  pub begin : first ≡ first_of f
  pub many : count ≡ count_of f
  pub fine : first_bad v (records_from f first count) ≡ Fine

-- a block inside D, not empty, and a pool inside D
pub record Sized (v : Device) (s n from end : ℕ) : Type 0 where
  pub some : 0 < n
  pub block : s + n ≤ v.words
  pub pool : from ≤ end
  pub most : end ≤ v.words
