-- None has room, or as many as have are copied. Assumes nothing.
use native.Mathlib.Omega.{arith}
use Rattle.serial.proofs.Buffers.{more-none, more-done, pasted}
use Rattle.serial.proofs.held.more.Goals as goal

pub returns-then-n-b : goal.returns-then-n-b
returns-then-n-b c =
    let a = c.args in
    let p = more-none a.n a.came.now a.b.now (omega arith) in
    record { value = p.0; b_after = p.1 }

pub returns : goal.returns
returns c =
    let a = c.args in
    let p = more-done a.n c.min-k.result a.came.now a.b.now _ c.min-k.ensures (pasted _ _ _ _ _ c.copy_from_slice.ensures.after) in
    record { value = p.0; b_after = p.1 }
