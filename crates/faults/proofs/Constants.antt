-- The range of a constant, judged on its bits. Assumes nothing.
use mathlib.Core.Bool.{◌&&◌, ◌||◌, and-true, and-false, or-false}
use mathlib.Core.Path.{◌≡◌, refl, sym, ap, ◌∙◌}
use Prim.Native.Nat.{ℕ, zero, suc, ◌-◌, ◌<◌, ◌≤◌, ◌^◌}
use native.Mathlib.Decide.{dec_lt}
use native.Mathlib.Omega.{arith}
use lib.Dec.{ltb, leb}
use lib.IntN.{ℤ, pos, negsuc, neg_ℤ}
use borrow.Author.Tests.{lt-ltb, le-ltb, le-leb, lt-leb}
use Rattle.ints.proofs.TwosLaws.{signed-small, signed-large}
use Rattle.ec20.specs.Numbers.{signed, between}

-- by the sign that the bits give
by_sign : (v : ℕ) (P : ℤ → Type 0) → v < 2 ^ 32 → (v < 2 ^ 31 → P (pos v)) → (2 ^ 31 ≤ v → P (negsuc (2 ^ 32 - suc v))) → P (signed (2 ^ 31) v)
by_sign v P k f g = go (dec_lt v (2 ^ 31))
  where
    go : Dec (v < 2 ^ 31) → P (signed (2 ^ 31) v)
    go (yes l) = rw (signed-small (2 ^ 31) v l) (f l)
    go (no l) = rw (signed-large (2 ^ 31) v (omega arith) k) (g (omega arith))

-- -h, of an h that is not 0
below : (h : ℕ) → 0 < h → neg_ℤ (pos h) ≡ negsuc (h - 1)
below zero l = absurd (omega arith)
below (suc h) l = ap negsuc (omega arith)

-- one test of order against another
le-as-lt : (v h : ℕ) → 0 < h → leb v (h - 1) ≡ ltb v h
le-as-lt v h l = go (dec_lt v h)
  where
    go : Dec (v < h) → leb v (h - 1) ≡ ltb v h
    go (yes k) = le-leb v (h - 1) (omega arith) ∙ sym (lt-ltb v h k)
    go (no k) = lt-leb v (h - 1) (omega arith) ∙ sym (le-ltb v h (omega arith))

le-turned : (v h : ℕ) → 0 < h → h ≤ 2 ^ 31 → v < 2 ^ 32 → leb (2 ^ 32 - suc v) (h - 1) ≡ leb (2 ^ 32 - h) v
le-turned v h l m k = go (dec_lt v (2 ^ 32 - h))
  where
    go : Dec (v < 2 ^ 32 - h) → leb (2 ^ 32 - suc v) (h - 1) ≡ leb (2 ^ 32 - h) v
    go (yes a) = lt-leb (2 ^ 32 - suc v) (h - 1) (omega arith) ∙ sym (lt-leb (2 ^ 32 - h) v a)
    go (no a) = le-leb (2 ^ 32 - suc v) (h - 1) (omega arith) ∙ sym (le-leb (2 ^ 32 - h) v (omega arith))

pub in-signed : (h v : ℕ) → 0 < h → h ≤ 2 ^ 31 → v < 2 ^ 32 → (ltb v h || leb (2 ^ 32 - h) v) ≡ between (neg_ℤ (pos h)) (pos (h - 1)) (signed (2 ^ 31) v)
in-signed h v l m k =
    by_sign v (λ z. (ltb v h || leb (2 ^ 32 - h) v) ≡ between (neg_ℤ (pos h)) (pos (h - 1)) z) k
    (λ a. rw (below h l, le-as-lt v h l, lt-leb (2 ^ 32 - h) v (omega arith)) (or-false (ltb v h)))
    (λ a. rw (below h l, le-turned v h l m k, le-ltb v h (omega arith)) (sym (and-true (leb (2 ^ 32 - h) v))))

pub in-from : (a v : ℕ) → v < 2 ^ 32 → (leb a v && leb v 32767) ≡ between (pos a) (pos 32767) (signed (2 ^ 31) v)
in-from a v k =
    by_sign v (λ z. (leb a v && leb v 32767) ≡ between (pos a) (pos 32767) z) k
    (λ l. refl)
    (λ l. rw (lt-leb v 32767 (omega arith)) (and-false (leb a v)))
