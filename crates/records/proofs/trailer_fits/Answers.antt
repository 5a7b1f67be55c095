use mathlib.Core.Path.{refl}
use Rattle.records.proofs.trailer_fits.Goals as goal

pub returns : goal.returns
returns c = rw c.saturating_sub.ensures refl
