-- Eight bytes. Assumes nothing.
use mathlib.Core.Path.{◌≡◌, ap, ◌∙◌}
use Prim.Native.Nat.{ℕ, ◌+◌, ◌-◌}
use native.Mathlib.Omega.{arith}
use mir.Syntax.{w64}
use Rattle.std.specs.Int.{to_le_bytes}
use borrow.Rule.Slice.PartMut.{put_mid}
use Rattle.bits.proofs.Steps.{put-eight}
use Rattle.bits.proofs.put_eight.Goals as goal

pub returns : goal.returns
returns c =
    let a = c.args in
    let eight : a.at + 8 - a.at ≡ 8 = omega arith in
    let row : c.copy_from_slice.new.self ≡ to_le_bytes w64 a.v = c.copy_from_slice.ensures.after ∙ c.to_le_bytes.ensures in
    ap (λ (k : ℕ). put_mid a.at k a.bits.now c.copy_from_slice.new.self) eight
    ∙ ap (put_mid a.at 8 a.bits.now) row
    ∙ put-eight a.bits.now a.at c.requires.1 a.v c.requires.0
