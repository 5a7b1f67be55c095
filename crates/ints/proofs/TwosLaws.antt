-- The laws of two's complement, at every width at once: `low` and `signed` are inverse to each other between the numbers from -h to
-- h - 1 and those below h + h. Assumes nothing.
use mathlib.Core.Path.{◌≡◌, refl, sym, ap, ◌∙◌}
use Prim.Native.Nat.{ℕ, suc, ◌+◌, ◌*◌, ◌-◌, ◌/◌, ◌%◌, ◌^◌, ◌<◌, ◌≤◌}
use native.Mathlib.Nat.{mod-lt, mod-eq_of_lt, add-mul-mod_self_right, div-add-mod', div-lt_iff_lt-mul}
use lib.Arith.{digits_mod}
use native.Mathlib.Omega.{arith}
use native.Mathlib.Decide.{dec_lt}
use borrow.Author.Tests.{lt-ltb, le-ltb}
use lib.IntN.{ℤ, pos, negsuc, neg_ℤ, ◌+ℤ◌, ◌-ℤ◌}
use lib.Signed.{mag, lt_z}
use mathlib.Core.Bool.{Bool, true, false, not}
use mir.Syntax.{Width}
use mir.Val.{bits, hbits, Fits, SFits, of_z, to_z}
use mir.ValLaws.{half_full, pow-bits}
use Rattle.ec20.specs.Numbers.{low, signed, wrap, is_above, is_below}
use Rattle.ints.proofs.Parts.{up, dn, up_neg, dn-neg, eq-parts, minus-parts, lt_z-true, lt_z-false}

pub low-lt : (m : ℕ) (z : ℤ) → 0 < m → low m z < m
low-lt m (pos n) h = mod-lt n h
low-lt m (negsuc n) h = omega arith

pub signed-small : (h u : ℕ) → u < h → signed h u ≡ pos u
unfolding signed
signed-small h u l = rw (lt-ltb u h l)

pub signed-large : (h u : ℕ) → h ≤ u → u < h + h → signed h u ≡ negsuc ((h + h) - suc u)
unfolding signed
signed-large h u l k = rw (le-ltb u h l) (rw (lt-ltb u (h + h) k))

-- by the halves of the range
by-half : {P : Type 0} (h u : ℕ) → (u < h → P) → (h ≤ u → P) → P
by-half {P} h u f g = go (dec_lt u h)
  where
    go : Dec (u < h) → P
    go (yes l) = f l
    go (no k) = g (omega arith)

pub signed_range : (h u : ℕ) → u < h + h → mag (signed h u) < h
signed_range h u k = by-half h u (λ l. rw (signed-small h u l) l) (λ l. rw (signed-large h u l k) (omega arith))

pub low_signed : (h u : ℕ) → u < h + h → low (h + h) (signed h u) ≡ u
low_signed h u k =
    by-half h u
    (λ l. rw (signed-small h u l) (mod-eq_of_lt k))
    (λ l. rw (signed-large h u l k) (rw (mod-eq_of_lt {n = (h + h) - suc u} {m = h + h} (omega arith)) (omega arith)))

pub wrap-fits : (h : ℕ) (z : ℤ) → mag z < h → wrap h z ≡ z
unfolding wrap
wrap-fits h (pos n) l = rw (mod-eq_of_lt {n = n} {m = h + h} (omega arith)) (signed-small h n l)
wrap-fits h (negsuc n) l =
    rw (mod-eq_of_lt {n = n} {m = h + h} (omega arith))
    (signed-large h ((h + h) - 1 - n) (omega arith) (omega arith) ∙ ap negsuc (omega arith))

pub wrap-range : (h : ℕ) (z : ℤ) → 0 < h → mag (wrap h z) < h
unfolding wrap
wrap-range h z l = signed_range h (low (h + h) z) (low-lt (h + h) z (omega arith))

-- the low bits, by the sign: of a number n that is not below 0, and of z = -1 - n
pub low-pos : (m n : ℕ) (z : ℤ) → pos n ≡ z → n % m ≡ low m z
low-pos m n z e = ap (low m) e

pub low-neg : (m n : ℕ) (z : ℤ) → lt_z z (pos 0) ≡ true → pos n ≡ negsuc 0 -ℤ z → (m - 1) - n % m ≡ low m z
low-neg m n (pos k) t e = absurd (omega (arith, lt_z-true (pos k) (pos 0) t))
low-neg m n (negsuc k) t e =
    ap (λ (j : ℕ). (m - 1) - j % m) (omega (arith, ap up e, ap dn e, minus-parts (negsuc 0) (negsuc k)))

pub signed-minus : (h u : ℕ) → h ≤ u → u < h + h → pos u -ℤ pos (h + h) ≡ signed h u
signed-minus h u l k =
    eq-parts (pos u -ℤ pos (h + h)) (signed h u)
    (rw (signed-large h u l k) (omega (arith, minus-parts (pos u) (pos (h + h)))))

-- At the machine's own widths these are the logic's reading and writing of bits
pub low-of_z : (w : Width) (z : ℤ) → SFits w z → low (2 ^ bits w) z ≡ of_z w z
low-of_z w (pos n) f = mod-eq_of_lt (half_full w f.sfits)
low-of_z w (negsuc n) f = rw (mod-eq_of_lt (half_full w f.sfits)) (omega arith)

pub signed-to_z : (w : Width) (u : ℕ) → Fits w u → signed (2 ^ hbits w) u ≡ to_z w u
unfolding signed
signed-to_z w u f =
    by-half (2 ^ hbits w) u
    (λ l. rw (lt-ltb u (2 ^ hbits w) l))
    (λ l. signed-large (2 ^ hbits w) u l (omega (arith, pow-bits w, f.fits)) ∙ rw (le-ltb u (2 ^ hbits w) l) (ap negsuc (omega (arith, pow-bits w))))

-- The low bits go by z up to multiples of m
pub low-more : (m : ℕ) (z : ℤ) (k : ℕ) → 0 < m → low m (z +ℤ pos (k * m)) ≡ low m z
low-more m (pos n) k h = add-mul-mod_self_right n k m
low-more m (negsuc n) k h = by-half (k * m) n above below
  where
    -- n < k * m: the sum is k * m - suc n, from 0 up
    multiple : (d : ℕ) → k ≡ suc (n / m) + d → k * m - suc n ≡ d * m + (m - 1 - n % m)
    multiple d e = ap (λ (j : ℕ). j * m - suc n) e ∙ omega (arith, div-add-mod' n m, mod-lt n h)

    below : k * m ≤ n → low m (negsuc n +ℤ pos (k * m)) ≡ low m (negsuc n)
    below l =
        rw (lt-ltb (k * m) (suc n) (omega arith))
        (ap (λ (j : ℕ). m - 1 - j % m) (omega arith) ∙ ap (λ (j : ℕ). m - 1 - j) (sym (add-mul-mod_self_right (n - k * m) k m) ∙ ap (λ (j : ℕ). j % m) (omega arith)))

    above : n < k * m → low m (negsuc n +ℤ pos (k * m)) ≡ low m (negsuc n)
    above l =
        let q : n / m < k = (div-lt_iff_lt-mul h).1 l in
        rw (le-ltb (k * m) (suc n) l)
        (ap (λ (j : ℕ). j % m) (multiple (k - suc (n / m)) (omega arith)) ∙ digits_mod (k - suc (n / m)) (omega arith))

-- what the tests of a range say of the parts
pub not-true : (b : Bool) → not b ≡ true → b ≡ false
not-true true e = cc
not-true false e = refl

pub not-false : (b : Bool) → not b ≡ false → b ≡ true
not-false true e = refl
not-false false e = cc

module _ (h : ℕ) (z : ℤ) where
  pub above-yes : is_above h z ≡ true → h + dn z ≤ up z
  above-yes e = let k = lt_z-false z (pos h) (not-true (lt_z z (pos h)) e) in omega arith

  pub below-yes : is_below h z ≡ true → h + up z < dn z
  below-yes e = omega (arith, lt_z-true z (neg_ℤ (pos h)) e, up_neg (pos h), dn-neg (pos h))
