-- By cases of the function's number. Assumes nothing.
use mathlib.Core.Path.{sym, ◌∙◌}
use native.Mathlib.Omega.{arith}
use Rattle.serial.proofs.Frames.{reply-read, reply-write, reply-exception, reply-none}
use Rattle.serial.proofs.held.reply_length.Goals as goal

pub returns-then-is_read : goal.returns-then-is_read
returns-then-is_read c =
    let a = c.args in
    reply-read a.n a.c (sym c.is_read.ensures ∙ c.if-is_read.true)

pub returns-then-is_write : goal.returns-then-is_write
returns-then-is_write c =
    let a = c.args in
    reply-write a.n a.c (sym c.is_read.ensures ∙ c.if-is_read.false) (sym c.is_write.ensures ∙ c.if-is_write.true)

pub returns-then-n-ge128 : goal.returns-then-n-ge128
returns-then-n-ge128 c =
    let a = c.args in
    reply-exception a.n a.c (sym c.is_read.ensures ∙ c.if-is_read.false) (sym c.is_write.ensures ∙ c.if-is_write.false)
    (omega arith)

pub returns : goal.returns
returns c =
    let a = c.args in
    reply-none a.n a.c (sym c.is_read.ensures ∙ c.if-is_read.false) (sym c.is_write.ensures ∙ c.if-is_write.false)
    (omega arith)
