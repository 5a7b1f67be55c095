use Rattle.faults.proofs.ByKind.{words, constant, timer, group}
use Rattle.faults.proofs.is_source.Goals as goal

pub returns-then-k-eq7 : goal.returns-then-k-eq7
returns-then-k-eq7 c = rw (c.words_in.ensures, c.wide-e.ensures.0) (words _ _ c.if-k-eq7.true)

pub returns-then-k-eq1 : goal.returns-then-k-eq1
returns-then-k-eq1 c = rw (c.constant_signed.ensures, c.half_of.ensures.0, c.wide-w.ensures.0) (constant _ _ c.if-k-eq1.true)

pub returns-then-k-eq6 : goal.returns-then-k-eq6
returns-then-k-eq6 c = rw (c.one_of.ensures, c.wide-w.ensures.0) (timer _ _ c.if-k-eq6.true)

pub returns : goal.returns
returns c = rw (c.group_in.ensures, c.wide-w.ensures.0) (group _ _ c.if-k-eq7.false c.if-k-eq1.false c.if-k-eq6.false)
