-- OUT always, SET and RST with flow. Assumes nothing.
use Rattle.operands.proofs.Steps.{coil-acts, coil-rests}
use Rattle.operands.proofs.coil.Goals as goal

pub returns-then-n-on : goal.returns-then-n-on
returns-then-n-on c =
    let a = c.args in
    λ x sm t d tv. coil-acts a.n a.o a.on _ c.if-n-on.true c.written.ensures.0 (c.store_bit.ensures x sm t d tv)

pub returns-else-n-on : goal.returns-else-n-on
returns-else-n-on c =
    let a = c.args in
    λ x sm t d tv. coil-rests a.n a.o a.on _ c.if-n-on.false
