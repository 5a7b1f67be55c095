-- The zeros as they are written. Assumes nothing.
use Rattle.std.proofs.Common.{refl}
use Rattle.cases.specs.Filled.{entries}
use Rattle.vectors_units.proofs.tables.report.Goals as goal

pub returns : goal.returns
unfolding entries
returns c = (refl, refl)
