-- What the mover has tested when it takes a place for a block.
use Rattle.std.specs.Prelude.{ℕ, false, ◌≡◌}
use Rattle.blocks.specs.Apart.{Apart}
use Rattle.ec20.specs.Judged.{Fine}
use Rattle.ec20.specs.Devices.{Device, meets_work}
use Rattle.ec20.specs.File.{Records}
use Rattle.ec20.specs.Move.{Block, block, split_fault, touches}
use Rattle.ec20.specs.Operands.{first_bad}
use Rattle.ec20.specs.UseMap.{some_record}

-- no record breaks 2, 3 or 4; no extent is partly in the block (13); and the place that begins at q meets neither block nor WORK nor an extent
pub record Placed (v : Device) (rs : Records) (b : Block) (q : ℕ) : Type 0 where
  pub sound : first_bad v rs ≡ Fine
  pub unsplit : split_fault rs b ≡ Fine
  pub two : Apart v b q
  pub off_work : meets_work v q b.length ≡ false
  pub unused : some_record (touches (block q b.length)) rs ≡ false
