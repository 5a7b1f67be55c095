-- The count as it is stored, or nothing outside. Assumes nothing.
use Rattle.std.proofs.Common.{sym, refl, arith}
use lib.Seq.{set_out}
use Rattle.cases.specs.Filled.{one_more}
use Rattle.cases.proofs.told.one_more.Goals as goal

pub returns-then-k-met : goal.returns-then-k-met
unfolding one_more
returns-then-k-met c = refl

pub returns-else-k-met : goal.returns-else-k-met
unfolding one_more
returns-else-k-met c = sym (set_out _ _ _ (omega arith))
