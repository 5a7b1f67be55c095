use Rattle.faults.proofs.ByKind.{target-words, target-group}
use Rattle.faults.proofs.is_target.Goals as goal

pub returns-then-o-eq7 : goal.returns-then-o-eq7
returns-then-o-eq7 c = rw (c.words_in.ensures, c.wide-e.ensures.0) (target-words _ _ c.if-o-eq7.true)

pub returns : goal.returns
returns c = rw (c.group_in.ensures, c.wide-w.ensures.0) (target-group _ _ c.if-o-eq7.false)
