use mathlib.Core.Path.{refl}
use Rattle.ec20.specs.Operands.{words_in}
use Rattle.faults.proofs.words_in.Goals as goal

pub returns : goal.returns
unfolding words_in
returns c = rw c.in_range.ensures refl
