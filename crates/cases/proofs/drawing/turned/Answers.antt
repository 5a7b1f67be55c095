-- The code is the definition. Assumes nothing.
use Rattle.std.proofs.Common.{refl}
use Rattle.cases.specs.Drawn.{turned_of}
use Rattle.cases.proofs.drawing.turned.Goals as goal

pub returns : goal.returns
unfolding turned_of
returns c = refl
