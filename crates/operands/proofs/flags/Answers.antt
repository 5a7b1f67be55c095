-- Where the outcome has flags. Assumes nothing.
use Rattle.operands.proofs.Steps.{flags-put}
use Rattle.operands.proofs.flags.Goals as goal

pub returns-then-r-eq1 : goal.returns-then-r-eq1
returns-then-r-eq1 c =
    flags-put c.args.r _ _ _ c.if-r-eq1.true c.put_bit.ensures c.put_bit-then-r-eq1.ensures c.put_bit-then-r-eq1-2.ensures
