-- A shift and a mask of one bit, or 0 outside. Assumes nothing.
use Prim.Native.Nat.{◌/◌, ◌%◌, ◌^◌}
use native.Mathlib.Nat.{zero-div}
use native.Mathlib.Omega.{arith}
use lib.ListN.{get_or, get_or-eq_default}
use lib.Bits.{and_mask, mask_lt}
use Rattle.ec20.specs.Bits.{bit_at}
use Rattle.bits.proofs.bit_at.Goals as goal

pub returns-then-at-bits : goal.returns-then-at-bits
unfolding bit_at
returns-then-at-bits c =
    let a = c.args in
    let x = get_or a.bits.now (a.k / 8) 0 / 2 ^ (a.k % 8) in
    (and_mask x 1, mask_lt x 1)

pub returns-else-at-bits : goal.returns-else-at-bits
unfolding bit_at
returns-else-at-bits c = (rw (get_or-eq_default c.args.bits.now 0 c.if-at-bits.false) (rw zero-div), omega arith)
