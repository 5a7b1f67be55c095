use Rattle.std.proofs.Common.{arith}
use Rattle.calls.proofs.Words.{count-zero, count-other, count-all}
use Rattle.calls.proofs.text.count.Goals as goal
use Rattle.calls.proofs.text.count.Goals.{then-byte-eq0, else-byte-eq0}

pub loop-byte-preserved : goal.loop-byte-preserved
loop-byte-preserved c =
    let s = c.args.call.now in
    let l = c.loop-byte in
    let b = c.loop-byte-test.true in
    elim c.if-byte-eq0.branch [
      | then-byte-eq0 w ↦ let e = count-zero s l.byte-index l.n _ l.invariant.1 b w.if-byte-eq0.true in (omega arith, omega (arith, e, w.n-is))
      | else-byte-eq0 w ↦ let e = count-other s l.byte-index l.n _ l.invariant.1 b w.if-byte-eq0.false in (omega arith, omega (arith, e, w.n-is))
    ]

pub returns : goal.returns
returns c =
    let l = c.loop-byte in
    count-all c.args.call.now l.byte-index l.n _ l.invariant.1 c.loop-byte-test.false
