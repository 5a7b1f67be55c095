use Rattle.std.proofs.Common.{ℕ, ◌+◌, ◌%◌, refl, ap, ◌∙◌, arith}
use Rattle.cases.proofs.Sums.{turn, done}
use Rattle.cases.proofs.octets.checksum.Goals as goal

pub loop-byte-init : goal.loop-byte-init
loop-byte-init c = refl

pub loop-byte-preserved : goal.loop-byte-preserved
loop-byte-preserved c =
    let l = c.loop-byte in
    let e = c.sum-one.ensures ∙ ap (λ (x : ℕ). (l.one + x) % 65521) c.from.ensures in
    turn _ l.byte-index _ _ _ _ _ (omega arith) e c.sum-two.ensures l.invariant

pub returns : goal.returns
returns c =
    let l = c.loop-byte in
    c.joined.ensures ∙ done _ l.byte-index _ _ _ (omega arith) (omega arith) l.invariant
