-- What is kept decides. Assumes nothing.
use native.Mathlib.Omega.{arith}
use Rattle.salvage.proofs.Answered.{refused-1, refused-16, done}
use Rattle.salvage.proofs.salvage.Goals as goal

pub returns-then-records-gt2000 : goal.returns-then-records-gt2000
returns-then-records-gt2000 c =
    refused-1 _ _ _ _ c.min.ensures c.keep-k.ensures.0 (omega arith)

pub returns-then-out-records : goal.returns-then-out-records
returns-then-out-records c =
    refused-16 _ _ _ _ c.min.ensures c.keep-k.ensures.0 (omega arith) (omega arith)

pub returns : goal.returns
returns c =
    done _ _ _ _ c.min.ensures c.keep-k.ensures.0 _ (omega arith) (omega arith) c.write.ensures
