-- The byte that holds the bit is put back, or nothing is done outside. Assumes nothing.
use mathlib.Core.Path.{sym, ap}
use Prim.Native.Nat.{ℕ, ◌/◌}
use lib.ListN.{set}
use lib.Seq.{set_out}
use Rattle.ec20.specs.Bits.{with_bit}
use Rattle.bits.proofs.put_bit.Goals as goal

pub returns-then-at-bits : goal.returns-then-at-bits
unfolding with_bit
returns-then-at-bits c =
    let a = c.args in
    ap (λ (y : ℕ). set a.bits.now (a.k / 8) y) c.byte_with.ensures

pub returns-else-at-bits : goal.returns-else-at-bits
unfolding with_bit
returns-else-at-bits c = sym (set_out _ _ _ c.if-at-bits.false)
