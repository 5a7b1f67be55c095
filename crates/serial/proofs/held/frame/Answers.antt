-- It ends with its length as a request or as a reply, with a silence, or not. Assumes nothing.
use mathlib.Core.Path.{sym, ◌∙◌}
use Rattle.serial.proofs.Frames.{told_of, frame-request, frame-reply, frame-silent, frame-open}
use Rattle.serial.proofs.held.frame.Goals as goal

pub returns-then-is_whole : goal.returns-then-is_whole
returns-then-is_whole c =
    let a = c.args in
    frame-request a.own a.silence a.b.now c.told_length-n.result
    (told_of a.b.now _ _ _ c.byte_at.ensures.0 c.byte_at-2.ensures.0 c.told_length-n.ensures)
    (sym c.is_whole.ensures ∙ c.if-is_whole.true)

pub returns-then-is_whole-2 : goal.returns-then-is_whole-2
returns-then-is_whole-2 c =
    let a = c.args in
    frame-reply a.own a.silence a.b.now c.told_length-n.result c.others_length-m.result
    (told_of a.b.now _ _ _ c.byte_at.ensures.0 c.byte_at-2.ensures.0 c.told_length-n.ensures)
    (sym c.is_whole.ensures ∙ c.if-is_whole.false) c.others_length-m.ensures
    (sym c.is_whole-2.ensures ∙ c.if-is_whole-2.true)

pub returns-then-silence : goal.returns-then-silence
returns-then-silence c =
    let a = c.args in
    frame-silent a.own a.silence a.b.now c.told_length-n.result c.others_length-m.result
    (told_of a.b.now _ _ _ c.byte_at.ensures.0 c.byte_at-2.ensures.0 c.told_length-n.ensures)
    (sym c.is_whole.ensures ∙ c.if-is_whole.false) c.others_length-m.ensures
    (sym c.is_whole-2.ensures ∙ c.if-is_whole-2.false) c.if-silence.true

pub returns-else-silence : goal.returns-else-silence
returns-else-silence c =
    let a = c.args in
    frame-open a.own a.silence a.b.now c.told_length-n.result c.others_length-m.result
    (told_of a.b.now _ _ _ c.byte_at.ensures.0 c.byte_at-2.ensures.0 c.told_length-n.ensures)
    (sym c.is_whole.ensures ∙ c.if-is_whole.false) c.others_length-m.ensures
    (sym c.is_whole-2.ensures ∙ c.if-is_whole-2.false) c.if-silence.false
