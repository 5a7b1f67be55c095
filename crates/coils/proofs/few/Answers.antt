-- Two bytes, a shift and a mask. Assumes nothing.
use mathlib.Core.Path.{◌≡◌}
use Prim.Native.Nat.{◌*◌, ◌-◌, ◌%◌, ◌^◌}
use native.Mathlib.Omega.{arith}
use lib.Bits.{bit_and}
use lib.Pow.{pow_mono}
use Rattle.ec20.specs.Bits.{packed}
use Rattle.bits.proofs.Laws.{packed-range}
use Rattle.bits.proofs.Bytes.{one-there}
use Rattle.coils.proofs.Shifts.{few-code}
use Rattle.coils.proofs.few.Goals as goal

-- what is answered
answer : (c : goal.After-across-v) → let a = c.args in bit_and c.across-v.result ((1 * 2 ^ a.n) % 65536 - 1) ≡ packed a.bits.now a.i a.n
answer c =
    let x = c.byte_at in
    let y = c.byte_at-2 in
    few-code c.args.bits.now c.args.i c.args.n x.result y.result c.across-v.result c.requires x.ensures y.ensures (omega (arith, x.type_inv))
    (omega (arith, y.type_inv)) c.across-v.ensures

pub overflow_sub-result : goal.overflow_sub-result
overflow_sub-result c = one-there 16 c.args.n (omega arith)

pub overflow_cast-result-3 : goal.overflow_cast-result-3
overflow_cast-result-3 c =
    rw (answer c) (record { fits = omega (arith, packed-range c.args.bits.now c.args.i c.args.n, pow_mono c.requires) })

pub returns : goal.returns
returns c =
    (answer c, rw (answer c) (packed-range c.args.bits.now c.args.i c.args.n))
