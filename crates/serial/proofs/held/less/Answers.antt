-- None is left, or the others are moved to the front. Assumes nothing.
use native.Mathlib.Omega.{arith}
use Rattle.serial.proofs.Buffers.{less_none, less-all, less_done}
use Rattle.serial.proofs.held.less.Goals as goal

pub returns-then-n-b : goal.returns-then-n-b
returns-then-n-b c =
    let a = c.args in
    let p = less_none a.n a.k a.b.now (omega arith) in
    record { value = p.0; b_after = p.1 }

pub returns-then-k-n : goal.returns-then-k-n
returns-then-k-n c =
    let a = c.args in
    let p = less-all a.n a.k a.b.now (omega arith) (omega arith) in
    record { value = p.0; b_after = p.1 }

pub returns : goal.returns
returns c =
    let a = c.args in
    let p = less_done a.n a.k a.b.now _ (omega arith) c.copy_within.ensures.after in
    record { value = p.0; b_after = p.1 }
