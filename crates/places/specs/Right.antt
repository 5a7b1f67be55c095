-- "The place, as long as the block, lies whole in the pool, meets neither block nor WORK, and no operand's extent meets it": what that says of the
-- words from q on, word by word.
use Rattle.std.specs.Prelude.{ℕ, ◌+◌, ◌≤◌, ◌<◌, false, ◌≡◌}
use Rattle.ec20.specs.Devices.{Device}
use Rattle.ec20.specs.File.{Records}
use Rattle.ec20.specs.Move.{Block, Pool}
use Rattle.ec20.specs.UseMap.{holds, record_has}

pub record Right (v : Device) (rs : Records) (b : Block) (l : Pool) (q : ℕ) : Type 0 where
  -- whole in the pool
  pub from : l.start ≤ q
  pub to : q + b.length ≤ l.end
  -- no word of WORK, and none of the block
  pub off_work : (i : ℕ) → q ≤ i → i < q + b.length → i < v.work
  pub off_block : (i : ℕ) → q ≤ i → i < q + b.length → b.start ≤ i → b.start + b.length ≤ i
  -- none that an operand of a record holds
  pub unused : (i : ℕ) → q ≤ i → i < q + b.length → (k : ℕ) → k < rs.count → record_has (holds i) (rs.at k) ≡ false
