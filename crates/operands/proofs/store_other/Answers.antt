-- By the kind. Assumes nothing.
use mathlib.Core.Path.{ap, ◌∙◌}
use mir.Facts.{to_z-of_z}
use Rattle.operands.proofs.Steps.{into_d, into-y, into-m, into-none}
use Rattle.ec20.specs.Registers.{with_number}
use Rattle.ec20.specs.Bits.{with_group}
use Rattle.operands.proofs.store_other.Goals as goal

pub returns-in-7 : goal.returns-in-7
returns-in-7 c =
    let a = c.args in
    λ x sm t tv. into_d _ _ _ _ _ _ _ _ _ _ c.in-7.is (c.put_number.ensures ∙ ap (with_number a.w a.d.now a.v) (to_z-of_z c.ranges.z))

pub returns-in-3 : goal.returns-in-3
returns-in-3 c =
    let a = c.args in
    λ x sm t tv. into-y _ _ _ _ _ _ _ _ _ _ c.in-3.is (c.put_group.ensures ∙ ap (with_group a.w a.y.now a.v a.g) (to_z-of_z c.ranges.z))

pub returns-in-4 : goal.returns-in-4
returns-in-4 c =
    let a = c.args in
    λ x sm t tv. into-m _ _ _ _ _ _ _ _ _ _ c.in-4.is (c.put_group-in-4.ensures ∙ ap (with_group a.w a.m.now a.v a.g) (to_z-of_z c.ranges.z))

pub returns-in_default : goal.returns-in_default
returns-in_default c =
    let n = c.in_default.in_default-own.rest in
    λ x sm t tv. into-none _ _ _ _ _ _ _ _ _ _ n.0.0.1 n.0.1 n.1
