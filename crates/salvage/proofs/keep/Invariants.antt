-- The invariant: the run goes on over the records that were passed. Assumes nothing.
use Rattle.salvage.proofs.Keeping.{On}
use Rattle.salvage.proofs.keep.Given as goal

abbrev pub invariant-loop-k : goal.invariant-loop-k
invariant-loop-k l = On l.t l.k
