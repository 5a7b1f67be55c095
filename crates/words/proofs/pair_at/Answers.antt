-- The bits of the two words, the first the high ones. Assumes nothing.
use mir.Syntax.{w64}
use Rattle.ints.proofs.Parts.{said}
use Rattle.words.proofs.Steps.{pair_read}
use Rattle.words.proofs.pair_at.Goals as goal

pub returns : goal.returns
returns c =
    let a = c.args in
    let high = c.word_at in
    let low = c.word_at-2 in
    pair_read a.d.now a.i _ _ c.raised-high.ensures (said w64 high.type_inv high.ensures.0) c.raised-low.ensures (said w64 low.type_inv low.ensures.0) c.of_bits.type_inv c.of_bits.ensures
