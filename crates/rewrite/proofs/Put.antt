-- Four bytes that are copied into a file at once. Assumes nothing.
use Prim.Native.Nat.{ℕ, zero, suc, ◌+◌, ◌/◌, ◌≤◌}
use mathlib.Core.List.{List, [], ◌∷◌}
use mathlib.Core.Path.{◌≡◌, refl, ap}
use native.Mathlib.Omega.{arith}
use borrow.Rule.Slice.PartMut.{put_mid}
use lib.ListN.{length, set}
use Rattle.std.specs.Int.{w32, to_le_bytes}
use Rattle.rewrite.specs.Numbers.{with_u32}

-- one after the other is the same
four : (i : ℕ) (f : List ℕ) (a b c d : ℕ) → i + 4 ≤ length f
    → put_mid i 4 f (a ∷ b ∷ c ∷ d ∷ []) ≡ set (set (set (set f i a) (suc i) b) (suc (suc i)) c) (suc (suc (suc i))) d
four i [] a b c d h = absurd (omega arith)
four (suc i) (x ∷ f) a b c d h = ap (λ (l : List ℕ). x ∷ l) (four i f a b c d (omega arith))
four zero (x ∷ []) a b c d h = absurd (omega arith)
four zero (x ∷ y ∷ []) a b c d h = absurd (omega arith)
four zero (x ∷ y ∷ z ∷ []) a b c d h = absurd (omega arith)
four zero (x ∷ y ∷ z ∷ w ∷ f) a b c d h = refl

pub put-bytes : (i v n : ℕ) (f x : List ℕ) → i + 4 ≤ length f → n ≡ 4 → x ≡ to_le_bytes w32 v → put_mid i n f x ≡ with_u32 f i v
unfolding with_u32
put-bytes i v n f x h m e =
    let z : v / 1 ≡ v = omega arith in
    let p : i + 1 ≡ suc i = omega arith in
    let q : i + 2 ≡ suc (suc i) = omega arith in
    let r : i + 3 ≡ suc (suc (suc i)) = omega arith in
    rw (m, e, z, p, q, r) (four i f _ _ _ _ h)
