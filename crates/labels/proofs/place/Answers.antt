use Rattle.labels.proofs.Table.{told_at, told_none}
use Rattle.labels.specs.Places.{Places}
use Rattle.labels.proofs.place.Goals as goal

pub returns-then-t-eq0 : goal.returns-then-t-eq0
unfolding Places
returns-then-t-eq0 c = told_none _ _ (c.requires.places _ c.if-l-lt128.true) c.if-t-eq0.true

pub returns-then-l-lt128 : goal.returns-then-l-lt128
unfolding Places
returns-then-l-lt128 c = told_at _ _ (c.requires.places _ c.if-l-lt128.true) c.if-t-eq0.false
