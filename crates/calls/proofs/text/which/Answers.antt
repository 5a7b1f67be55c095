use Rattle.std.proofs.Common.{◌≡◌, ◌∙◌, sym, arith}
use Rattle.calls.proofs.Words.{which-found, which-more, which-none}
use Rattle.calls.proofs.text.which.Goals as goal

pub returns-then-same : goal.returns-then-same
returns-then-same c =
    let l = c.loop-k in
    which-found _ _ _ l.k _ l.invariant _ c.same.result c.word.ensures c.same.ensures c.loop-k-test.true c.if-same.true

pub loop-k-preserved : goal.loop-k-preserved
loop-k-preserved c =
    let l = c.loop-k in
    which-more _ _ _ l.k _ l.invariant _ c.same.result c.word.ensures c.same.ensures c.loop-k-test.true c.if-same.false

pub returns : goal.returns
returns c =
    let l = c.loop-k in
    let e : l.k ≡ c.args.n = omega arith in
    sym e ∙ which-none _ _ _ l.k _ l.invariant (omega arith) c.loop-k-test.false
