-- A table that is filled entry by entry. Assumes nothing.
use Prim.Native.Nat.{ℕ, ◌+◌, ◌<◌, ◌≤◌}
use mathlib.Core.List.{List}
use mathlib.Core.Path.{◌≡◌, refl, sym, subst, ◌∙◌}
use native.Mathlib.Decide.{ℕ_discrete}
use native.Mathlib.Omega.{arith}
use lib.ListN.{get_or, length, set, length-set}
use lib.Seq.{get_or-set_same, get_or-set_other, ext_get_or}
use Rattle.image.specs.Image.{Filled}

-- of n entries the first k are f's
pub record Filling {A : Type 0} (z : A) (n k : ℕ) (f : ℕ → A) (l : List A) : Type 0 where
  pub size : length l ≡ n
  pub below : k ≤ n
  pub told : (i : ℕ) → i < k → get_or l i z ≡ f i

pub filling-none : {A : Type 0} (z : A) (f : ℕ → A) (l : List A) → Filling z (length l) 0 f l
filling-none z f l = record { size = refl; below = omega arith; told = λ i h. absurd (omega arith) }

pub filling-more : {A : Type 0} {z : A} {n k : ℕ} {f : ℕ → A} {l : List A} (v : A) → k < n → Filling z n k f l → v ≡ f k → Filling z n (k + 1) f (set l k v)
filling-more {z = z} {n = n} {k = k} {f = f} {l = l} v h s e =
    record {
      size = length-set l k v ∙ s.size;
      below = omega arith;
      told = λ i b. elim (ℕ_discrete i k) [
        | yes q ↦ subst (λ (j : ℕ). get_or (set l k v) j z ≡ f j) (sym q) (get_or-set_same l k v z (omega (arith, s.size)) ∙ e)
        | no q ↦ get_or-set_other l k i v z q ∙ s.told i (omega arith)
      ];
    }

pub filling-done : {A : Type 0} {z : A} {n k : ℕ} {f : ℕ → A} {l : List A} → n ≤ k → Filling z n k f l → Filled z n f l
filling-done h s = (s.size, λ i b. s.told i (omega arith))

-- what is filled is fixed
pub one-filled : {A : Type 0} (z : A) (n : ℕ) (f : ℕ → A) (l m : List A) → Filled z n f l → Filled z n f m → l ≡ m
one-filled z n f l m a b =
    ext_get_or z l m (a.0 ∙ sym b.0) (λ i h. a.1 i (omega (arith, a.0)) ∙ sym (b.1 i (omega (arith, a.0))))
