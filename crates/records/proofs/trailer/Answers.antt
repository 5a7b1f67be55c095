-- Each byte by the definition. Assumes nothing.
use mathlib.Core.Path.{refl}
use Rattle.ec20.specs.Written.{trailer_of}
use Rattle.records.proofs.trailer.Goals as goal

pub returns : goal.returns
unfolding trailer_of
returns c = refl
