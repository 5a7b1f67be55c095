use mathlib.Core.Path.{refl}
use Rattle.ec20.specs.Operands.{fault_in}
use Rattle.faults.proofs.fault_in.Goals as goal

pub returns : goal.returns
unfolding fault_in
returns c = rw (c.fault_of.ensures, c.row_in.ensures) refl
