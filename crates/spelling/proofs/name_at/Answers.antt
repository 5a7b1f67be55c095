use native.Mathlib.Omega.{arith}
use Rattle.spelling.proofs.Laws.{name-past, name-broken, name-whole}
use Rattle.spelling.proofs.name_at.Goals.{then-s-from-via-then-s-from, then-s-from-via-else-s-from+then-s-from-le8}
use Rattle.spelling.proofs.name_at.Goals as goal

pub returns-then-s-from : goal.returns-then-s-from
returns-then-s-from c =
    elim c.then-s-from.branch [
      | then-s-from-via-then-s-from w ↦ name-past _ _ (omega arith)
      | then-s-from-via-else-s-from+then-s-from-le8 w ↦ name-past _ _ (omega arith)
    ]

pub returns-then-s-i-eq10 : goal.returns-then-s-i-eq10
returns-then-s-i-eq10 c = let l = c.loop-i in name-broken _ _ l.i (omega arith) c.loop-i-test.true c.if-s-i-eq10.true

pub returns : goal.returns
returns c = name-whole _ _ (λ i a b e. c.loop-i.invariant i a (omega arith) e)
