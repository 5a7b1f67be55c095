-- By cases of the function's number. Assumes nothing.
use mathlib.Core.Path.{sym, ◌∙◌}
use Rattle.serial.proofs.Frames.{told-long, told-short, told_none}
use Rattle.serial.proofs.held.told_length.Goals as goal

pub returns-then-is_long : goal.returns-then-is_long
returns-then-is_long c =
    let a = c.args in
    told-long a.n a.c (sym c.is_long.ensures ∙ c.if-is_long.true)

pub returns-then-is_read-is_short : goal.returns-then-is_read-is_short
returns-then-is_read-is_short c =
    let a = c.args in
    told-short a.n a.c c.is_read.result c.is_short.result (sym c.is_long.ensures ∙ c.if-is_long.false)
    c.is_read.ensures c.is_short.ensures c.if-is_read-is_short.true

pub returns : goal.returns
returns c =
    let a = c.args in
    told_none a.n a.c c.is_read.result c.is_short.result (sym c.is_long.ensures ∙ c.if-is_long.false)
    c.is_read.ensures c.is_short.ensures c.if-is_read-is_short.false
