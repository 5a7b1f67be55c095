-- `unit_texts::empty` meets its contract. Assumes nothing.
use mathlib.Core.Path.{refl}
use Rattle.units.specs.Kept.{kept_in}
use Rattle.unit_texts.specs.Held.{table_of}
use Rattle.unit_texts.proofs.empty.Goals as goal

pub returns : goal.returns
unfolding table_of kept_in
returns c = refl
