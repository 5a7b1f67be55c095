-- NEXT with passes to go, and with none: a case each of the definition.
use Rattle.jumps.proofs.Laws.{close-again, close-done}
use Rattle.jumps.proofs.close_loop.Goals as goal

pub returns-then-passes-gt1 : goal.returns-then-passes-gt1
returns-then-passes-gt1 c = λ m. close-again m _ _ _ _ _ c.saturating_sub-inner.ensures c.if-passes-gt1.true c.go_to.ensures

pub returns : goal.returns
returns c = λ m. close-done m _ _ _ _ _ c.saturating_sub-inner.ensures c.if-passes-gt1.false c.go_to-2.ensures
