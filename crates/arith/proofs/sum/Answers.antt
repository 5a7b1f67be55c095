-- What is stored, and the flags, are each what their function says of z. Assumes nothing.
use mathlib.Core.Path.{ap, ◌∙◌}
use mir.Syntax.{w64}
use mir.Facts.{to_z-of_z}
use Rattle.ec20.specs.Numbers.{wrap, is_zero, is_above, is_below}
use Rattle.ec20.specs.Words.{sum_of}
use Rattle.ints.proofs.Parts.{said}
use Rattle.arith.proofs.sum.Goals as goal

pub returns : goal.returns
unfolding sum_of
returns c =
    let h = c.args.h in
    let k = to_z-of_z c.ranges.z in
    let v = said w64 c.wrapped-value.type_inv (c.wrapped-value.ensures ∙ ap (wrap h) k) in
    let zero = c.is_zero-zero.ensures ∙ ap is_zero k in
    let above = c.is_above-above.ensures ∙ ap (is_above h) k in
    let below = c.is_below-below.ensures ∙ ap (is_below h) k in
    c.judged.ensures ∙ rw (v, zero, above, below)
