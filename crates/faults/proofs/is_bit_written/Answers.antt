use mathlib.Core.Path.{refl}
use Rattle.ec20.specs.Operands.{is_bit_written}
use Rattle.faults.proofs.is_bit_written.Goals as goal

pub returns : goal.returns
unfolding is_bit_written
returns c = rw (c.one_of.ensures, c.one_of-2.ensures) refl
