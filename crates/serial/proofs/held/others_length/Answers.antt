-- By the station. Assumes nothing.
use borrow.Author.Tests.{eq-eqb, ne_eqb}
use Rattle.serial.proofs.Frames.{others-own, others-reply}
use Rattle.serial.proofs.held.others_length.Goals as goal

pub returns-then-byte_at-own : goal.returns-then-byte_at-own
returns-then-byte_at-own c =
    let a = c.args in
    others-own a.own a.b.now c.byte_at.result c.byte_at.ensures.0 (eq-eqb _ _ c.if-byte_at-own.true)

pub returns : goal.returns
returns c =
    let a = c.args in
    others-reply a.own a.b.now c.byte_at.result c.byte_at-2.result c.byte_at-3.result
    c.reply_length.result c.byte_at.ensures.0 (ne_eqb _ _ c.if-byte_at-own.false) c.byte_at-2.ensures.0
    c.byte_at-3.ensures.0 c.reply_length.ensures
