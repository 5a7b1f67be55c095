-- Its bytes, one by one. Assumes nothing.
use mathlib.Core.Path.{refl}
use Rattle.ec20.specs.Written.{end_record}
use Rattle.salvage.proofs.end_record.Goals as goal

pub returns : goal.returns
unfolding end_record
returns c = refl
