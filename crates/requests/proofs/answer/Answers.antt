use Rattle.std.proofs.lemmas.Result.{err_from_is_err_and}
use Rattle.requests.proofs.Laws.{refused, unheard, answered, ready}
use Rattle.requests.proofs.answer.Goals as goal

pub returns-in_err-judge : goal.returns-in_err-judge
returns-in_err-judge c =
    let p = err_from_is_err_and c.from_residual.result c.from_residual.ensures.1 in
    rw (p.1, p.2) (refused _ _ _ _ _ _ _ c.judge.ensures c.in_err-judge.was)

pub heard-requires : goal.heard-requires
heard-requires c =
    ready c.args.own c.args.f.now c.args.m.now c.args.d.now c.args.reply.now _ c.judge.ensures c.in_ok-judge.was _ c.is_heard.ensures c.if-not-is_heard.false

pub returns-then-not-is_heard : goal.returns-then-not-is_heard
returns-then-not-is_heard c =
    unheard c.args.own c.args.f.now c.args.m.now c.args.d.now c.args.reply.now _ c.judge.ensures c.in_ok-judge.was _ c.is_heard.ensures c.if-not-is_heard.true

pub returns : goal.returns
returns c =
    answered c.args.own c.args.f.now c.args.m.now c.args.d.now c.args.reply.now _ c.judge.ensures c.in_ok-judge.was _ c.is_heard.ensures c.if-not-is_heard.false _ c.heard.ensures
