use mathlib.Core.Path.{refl}
use Rattle.ec20.specs.Operands.{is_bit_read}
use Rattle.faults.proofs.is_bit_read.Goals as goal

pub returns : goal.returns
unfolding is_bit_read
returns c = rw (c.one_of.ensures, c.one_of-2.ensures, c.one_of-3.ensures, c.one_of-4.ensures, c.one_of-5.ensures) refl
