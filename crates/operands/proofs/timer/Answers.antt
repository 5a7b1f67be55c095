-- The count, the contact and the value. Assumes nothing.
use mir.Syntax.{w64}
use Rattle.ints.proofs.Parts.{said}
use lib.ListN.{set}
use Rattle.ec20.specs.Bits.{with_bit}
use Rattle.ec20.specs.Timers.{counted_of, limit_at}
use mathlib.Core.Path.{ap, ap₂, ◌∙◌}
use Rattle.operands.proofs.Steps.{timed}
use Rattle.operands.proofs.timer.Goals as goal

pub returns : goal.returns
returns c =
    let a = c.args in
    timed a.u a.i a.constant a.on a.t.now a.tv.now c.counted-n.result
    (c.counted-n.ensures.0 ∙ ap₂ (counted_of a.on (limit_at a.constant)) c.units.ensures.0 (said w64 c.word_at.type_inv c.word_at.ensures.0))
    (c.put_bit.ensures ∙ ap (with_bit a.t.now a.i) c.contact.ensures.0)
    (c.put_word.ensures ∙ ap (set a.tv.now a.i) (said w64 c.whole.type_inv c.whole.ensures))
