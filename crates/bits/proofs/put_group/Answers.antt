-- By the width: the low bits of v, spread over the group's. Assumes nothing.
use mathlib.Core.Path.{ap, ap₂, ◌∙◌}
use Prim.Native.Nat.{ℕ}
use mir.Facts.{to_z-of_z}
use borrow.Author.Tests.{eq-eqb, ne_eqb}
use Rattle.ec20.specs.Numbers.{low}
use Rattle.ec20.specs.Bits.{spread, with_group}
use Rattle.bits.proofs.put_group.Goals as goal

pub returns-then-w-eq16 : goal.returns-then-w-eq16
unfolding with_group
returns-then-w-eq16 c =
    let a = c.args in
    rw (eq-eqb _ _ c.if-w-eq16.true)
    (c.scatter.ensures
    ∙ ap₂ (λ (n x : ℕ). spread a.bits.now a.first n x)
    c.group_size.ensures.0
    (c.bits.ensures ∙ ap (low 65536) (to_z-of_z c.ranges.v)))

pub returns-else-w-eq16 : goal.returns-else-w-eq16
unfolding with_group
returns-else-w-eq16 c =
    let a = c.args in
    rw (ne_eqb _ _ c.if-w-eq16.false)
    (c.scatter-else-w-eq16.ensures
    ∙ ap₂ (λ (n x : ℕ). spread a.bits.now a.first n x)
    c.group_size-else-w-eq16.ensures.0
    (c.bits-else-w-eq16.ensures ∙ ap (low 4294967296) (to_z-of_z c.ranges.v)))
