use Rattle.std.proofs.Common.{refl, arith}
use Rattle.calls.proofs.Words.{word_more, word-found}
use Rattle.calls.specs.Text.{rest_at}
use Rattle.calls.proofs.text.start_of.Goals as goal

pub loop-k-init : goal.loop-k-init
unfolding rest_at
loop-k-init c = (refl, omega arith)

pub loop-k-preserved : goal.loop-k-preserved
loop-k-preserved c =
    let l = c.loop-k in
    (word_more _ l.at c.after-at.result l._k l.invariant.0 c.after-at.ensures.0, c.after-at.ensures.1)

pub returns : goal.returns
returns c =
    let l = c.loop-k in
    (word-found _ l.at l._k _ (omega arith) (omega arith) l.invariant.0, l.invariant.1)
