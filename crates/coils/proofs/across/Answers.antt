-- A shift and a mask of the two bytes. Assumes nothing.
use Prim.Native.Nat.{◌+◌, ◌*◌, ◌/◌, ◌^◌}
use lib.Bits.{and_mask, mask_lt}
use Rattle.coils.proofs.across.Goals as goal

pub overflow_cast-result-4 : goal.overflow_cast-result-4
overflow_cast-result-4 c = record { fits = mask_lt ((c.args.x + c.args.y * 256) / 2 ^ c.args.s) 8 }

pub returns : goal.returns
returns c = and_mask ((c.args.x + c.args.y * 256) / 2 ^ c.args.s) 8
