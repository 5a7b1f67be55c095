-- The bits that are gathered, as a number of the width. Assumes nothing.
use mathlib.Core.Path.{◌≡◌, ap, ap₂, ◌∙◌}
use mir.Syntax.{w64}
use Rattle.ec20.specs.Numbers.{signed}
use Rattle.ec20.specs.Bits.{packed, group_size, group_at}
use Rattle.ints.proofs.Parts.{said}
use Rattle.bits.proofs.Laws.{group-range}
use Rattle.bits.proofs.group_at.Goals as goal

-- what is gathered
bits : (c : goal.After-of_bits) → c.gather.result ≡ packed c.args.bits.now c.args.first (group_size c.args.w c.args.n)
bits c =
    let a = c.args in
    c.gather.ensures.0 ∙ ap (packed a.bits.now a.first) c.group_size-size.ensures.0

pub returns : goal.returns
unfolding group_at
returns c =
    let a = c.args in
    let s = said w64 c.of_bits.type_inv (c.of_bits.ensures ∙ ap₂ signed c.half_of.ensures (bits c)) in
    (s, rw s (group-range a.w a.bits.now a.first a.n))
