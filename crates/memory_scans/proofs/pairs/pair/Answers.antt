-- Two scans and where they differ; and demand 3, of the file's bytes. Assumes nothing.
use native.Mathlib.Omega.{arith}
use Rattle.memory_scans.proofs.Alike.{paired, pair-says}
use Rattle.memory_scans.proofs.pairs.pair.Goals as goal

pub returns : goal.returns
returns c =
    let all = pair-says _ _ _ _ _ _ _ _ (λ i. omega (arith, c.type_inv.old i))
    (paired _ _ _ _ _ _ _ _ (c.scan_ready.ensures.value, (c.scan_ready.ensures.image_after, c.scan_ready.ensures.image_after_2)) c.answer_of-one.ensures (c.scan_ready-2.ensures.value, (c.scan_ready-2.ensures.image_after, c.scan_ready-2.ensures.image_after_2)) c.answer_of-two.ensures c.apart-first.ensures) in
    record { paired = all.0; alike = all.1 }
