-- What the exchange asks of block and place, and the mover of a place that it takes.
use Rattle.std.specs.Prelude.{ℕ, ◌+◌, ◌≤◌, false, ◌≡◌}
use Rattle.ec20.specs.Devices.{Device, meets}
use Rattle.ec20.specs.Move.{Block}

-- block and place lie inside D and do not meet
pub record Apart (v : Device) (b : Block) (q : ℕ) : Type 0 where
  pub block_in : b.start + b.length ≤ v.words
  pub place_in : q + b.length ≤ v.words
  pub apart : meets q b.length b.start b.length ≡ false
