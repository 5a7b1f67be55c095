-- By the width. Assumes nothing.
use borrow.Author.Tests.{ne_eqb}
use Prim.Native.Nat.{◌%◌}
use native.Mathlib.Omega.{arith}
use Rattle.operands.proofs.Steps.{told}
use Rattle.ints.proofs.TwosLaws.{signed_range}
use Rattle.operands.proofs.constant.Goals as goal

pub returns-in-16 : goal.returns-in-16
returns-in-16 c =
    let a = c.args in
    rw c.in-16.is (told 32768 c.of_bits.type_inv c.of_bits.ensures (signed_range 32768 (a.o.value % 65536) (omega arith)))

pub returns-in_default : goal.returns-in_default
returns-in_default c =
    let a = c.args in
    rw (ne_eqb _ _ c.in_default.in_default-own.rest.1) (told 2147483648 c.of_bits-in_default.type_inv c.of_bits-in_default.ensures (signed_range 2147483648 (a.o.value % 4294967296) (omega arith)))
