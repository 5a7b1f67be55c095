-- FOR 0, a loop opened, the ninth passed by: a case each of the definition.
use Rattle.jumps.proofs.Laws.{for-none, for_some, for-ninth}
use Rattle.jumps.proofs.open_loop.Goals as goal

pub returns-then-passes-eq0 : goal.returns-then-passes-eq0
returns-then-passes-eq0 c = λ p m e. for-none p m _ _ _ _ _ _ c.if-passes-eq0.true c.go_to.ensures e

pub returns-then-k-lt8 : goal.returns-then-k-lt8
returns-then-k-lt8 c = λ p m e. for_some p m _ _ _ _ _ c.if-passes-eq0.false c.if-k-lt8.true c.go_to-then-k-lt8.ensures

pub returns : goal.returns
returns c = λ p m e. for-ninth p m _ _ _ _ _ c.if-passes-eq0.false c.if-k-lt8.false c.go_to-2.ensures
