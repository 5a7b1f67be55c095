-- Signs by the marks. Assumes nothing.
use Rattle.std.proofs.Common.{rules}
use Rattle.telling.proofs.Rows.{sign-free, sign-work, sign_read, sign-written, sign-both}
use Rattle.telling.proofs.picture.sign.Goals as goal

pub returns-then-i-lt7900 : goal.returns-then-i-lt7900
returns-then-i-lt7900 c = sign-free _ _ _ c.marks.ensures c.in-0.is c.if-i-lt7900.true

pub returns-else-i-lt7900 : goal.returns-else-i-lt7900
returns-else-i-lt7900 c = sign-work _ _ _ c.marks.ensures c.in-0.is c.if-i-lt7900.false

pub returns-in-1 : goal.returns-in-1
returns-in-1 c = sign_read _ _ _ c.marks.ensures c.in-1.is

pub returns-in-2 : goal.returns-in-2
returns-in-2 c = sign-written _ _ _ c.marks.ensures c.in-2.is

pub returns-in_default : goal.returns-in_default
returns-in_default c = sign-both _ _ _ c.marks.ensures (search rules) (search rules) (search rules)
