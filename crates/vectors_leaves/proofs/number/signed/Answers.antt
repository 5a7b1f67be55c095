-- The bits are below twice h, so that the number is in the width's range. Assumes nothing.
use Prim.Native.Nat.{ℕ, ◌+◌, ◌%◌, ◌<◌}
use native.Mathlib.Omega.{arith}
use native.Mathlib.Nat.{mod-lt}
use mathlib.Core.Path.{ap₂, ◌∙◌}
use mir.Syntax.{w64}
use Rattle.ec20.specs.Numbers.{signed}
use Rattle.ints.proofs.Parts.{said}
use Rattle.ints.proofs.TwosLaws.{signed_range}
use Rattle.vectors_leaves.proofs.number.signed.Goals as goal

below : (u h : ℕ) → 0 < h → u % (h + h) < h + h
below u h l = mod-lt u {m = h + h} (omega arith)

pub returns : goal.returns
returns c =
    let u = c.u32_at-u.result in
    let h = c.half_of-h.result in
    let e = said w64 c.of_bits.type_inv c.of_bits.ensures in (
      e ∙ ap₂ (λ (k v : ℕ). signed k (v % (k + k))) c.half_of-h.ensures.0 c.u32_at-u.ensures.0,
      rw e (rw (← c.half_of-h.ensures.0) (signed_range h (u % (h + h)) (below u h c.half_of-h.ensures.1))),
    )
