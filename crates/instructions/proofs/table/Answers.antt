-- The constant table is the definition's, computed once over the whole of it.
use mathlib.Core.Path.{refl}
use Rattle.ec20.specs.Table.{table}
use Rattle.instructions.proofs.table.Goals as goal

pub invariant_of-result : goal.invariant_of-result
unfolding table
invariant_of-result c = record { told = refl }
