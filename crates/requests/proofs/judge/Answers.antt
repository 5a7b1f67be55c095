use Rattle.requests.proofs.Laws.{by-9, by_16, fine}
use Rattle.requests.proofs.judge.Goals as goal

pub returns-then-not-m-d : goal.returns-then-not-m-d
returns-then-not-m-d c = by-9 _ _ _ _ c.if-not-m-d.true

pub returns-then-not-own-reply : goal.returns-then-not-own-reply
returns-then-not-own-reply c = by_16 _ _ _ _ c.if-not-m-d.false c.if-not-own-reply.true

pub returns : goal.returns
returns c = fine _ _ _ _ c.if-not-m-d.false c.if-not-own-reply.false
