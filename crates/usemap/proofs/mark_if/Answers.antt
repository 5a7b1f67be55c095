use Rattle.usemap.proofs.Laws.{widen-used, widen-unused}
use Rattle.usemap.proofs.mark_if.Goals as goal

pub returns-then-used : goal.returns-then-used
returns-then-used c = widen-used _ _ _ _ c.if-used.true c.mark_held.ensures

pub returns-else-used : goal.returns-else-used
returns-else-used c = widen-unused _ _ _ _ c.if-used.false
