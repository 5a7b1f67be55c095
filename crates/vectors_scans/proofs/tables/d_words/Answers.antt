-- The zeros as they are written. Assumes nothing.
use mathlib.Core.Path.{refl}
use Rattle.cases.specs.Filled.{entries}
use Rattle.vectors_scans.proofs.tables.d_words.Goals as goal

pub returns : goal.returns
unfolding entries
returns c = (refl, refl)
