-- Two memory files up to a byte. Assumes nothing.
use Prim.Native.Nat.{ℕ, ◌+◌, ◌<◌}
use mathlib.Core.List.{List}
use mathlib.Core.Path.{◌≡◌, sym, subst}
use native.Mathlib.Decide.{ℕ_discrete}
use native.Mathlib.Omega.{arith}
use lib.ListN.{get_or}

-- two files that are the same up to byte i, and there
pub same_more : (a b : List ℕ) (i : ℕ) → ((j : ℕ) → j < i → get_or a j 0 ≡ get_or b j 0) → get_or a i 0 ≡ get_or b i 0
    → (j : ℕ) → j < i + 1 → get_or a j 0 ≡ get_or b j 0
same_more a b i h e j l =
    elim (ℕ_discrete j i) [
      | yes q ↦ subst (λ (k : ℕ). get_or a k 0 ≡ get_or b k 0) (sym q) e
      | no q ↦ h j (omega (arith, l, q))
    ]
