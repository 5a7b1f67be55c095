-- What the definitions say, at every width at once. Assumes nothing.
use mathlib.Core.Path.{◌≡◌, refl, sym, ap, ◌∙◌}
use mathlib.Core.Bool.{Bool, true, false, not}
use mathlib.Core.Logic.{◌⊎◌, inl, inr}
use Prim.Native.Nat.{ℕ, zero, suc, ◌+◌, ◌*◌, ◌/◌, ◌%◌, ◌<◌, ◌≤◌}
use native.Mathlib.Nat.{mod-lt, mod-eq_of_lt, mod-one, div-one, div-le_self, div-lt_self, div-add-mod', lt_of_le_of_lt}
use native.Mathlib.Decide.{dec_lt}
use native.Mathlib.Omega.{arith}
use borrow.Author.Rules.{rules}
use borrow.Author.Tests.{eqb-true, eqb-false, le-ltb}
use lib.Dec.{eqb}
use lib.IntN.{ℤ, pos, negsuc, neg_ℤ, nat_abs, ◌+ℤ◌, ◌-ℤ◌, ◌*ℤ◌, neg_ℤ-+ℤ}
use lib.Signed.{lt_z, mag, mag_rem, quot_z, rem_z}
use Rattle.ec20.specs.declared.Outcome.{Outcome}
use Rattle.ec20.specs.Basics.{pick, one_if}
use Rattle.ec20.specs.Numbers.{wrap, is_zero, is_above, is_below, is_lowest, root_of}
use Rattle.ec20.specs.Words.{value, values, failure, flagged, sum_of, div_of, rooted, sqt_of, vabs_of, neg_of, compute_of, is}
use Rattle.ints.proofs.Parts.{abs-parts, lt_z-true, not_neg, up_neg, dn-neg}
use Rattle.ints.proofs.TwosLaws.{signed-large, wrap-fits, wrap-range, not-false, above-yes, below-yes}
use Rattle.ints.proofs.Quotients.{mag-negated}
use Rattle.arith.specs.Bounded.{Bounded}
use Rattle.arith.proofs.Roots.{root-small}

-- ---- DIV

-- a divisor other than 0: the stored quotient and the remainder
pub divided : (h : ℕ) (a b : ℤ) → is_zero b ≡ false → div_of h a b ≡ values (wrap h (quot_z a b)) (rem_z a b)
unfolding div_of
divided h a b e = rw e

-- the lowest number by -1 gives the lowest number, remainder 0
pub lowest-by-minus-one : (h : ℕ) → 0 < h → div_of h (neg_ℤ (pos h)) (negsuc 0) ≡ values (neg_ℤ (pos h)) (pos 0)
unfolding wrap
lowest-by-minus-one zero l = absurd (omega arith)
lowest-by-minus-one (suc n) l =
    let q : wrap (suc n) (quot_z (negsuc n) (negsuc 0)) ≡ negsuc n =
    rw (div-one (suc n)) (rw (mod-eq_of_lt {n = suc n} {m = suc n + suc n} (omega arith)) (signed-large (suc n) (suc n) (omega arith) (omega arith) ∙ ap negsuc (omega arith))) in
    let r : rem_z (negsuc n) (negsuc 0) ≡ pos 0 = ap (λ (k : ℕ). neg_ℤ (pos k)) (mod-one (suc n)) in
    divided (suc n) (negsuc n) (negsuc 0) refl ∙ rw (q, r)

-- products and sums of negatives of naturals
neg-times : (q b : ℕ) → neg_ℤ (pos q) *ℤ pos b ≡ neg_ℤ (pos (q * b))
neg-times zero b = let z : 0 * b ≡ 0 = omega arith in rw z
neg-times (suc q) b = refl

neg-times-neg : (q b : ℕ) → neg_ℤ (pos q) *ℤ negsuc b ≡ pos (q * suc b)
neg-times-neg zero b = let z : 0 * suc b ≡ 0 = omega arith in rw z
neg-times-neg (suc q) b = refl

-- exactly, with no width: the quotient by the divisor and the remainder give the dividend back
whole : (a b : ℤ) → quot_z a b *ℤ b +ℤ rem_z a b ≡ a
whole (pos a) (pos b) = ap pos (div-add-mod' a b)
whole (pos a) (negsuc b) = rw (neg-times-neg (a / suc b) b) (ap pos (div-add-mod' a (suc b)))
whole (negsuc a) (pos b) =
    rw (neg-times (suc a / b) b)
    (sym (neg_ℤ-+ℤ (pos (suc a / b * b)) (pos (suc a % b))) ∙ ap (λ (k : ℕ). neg_ℤ (pos k)) (div-add-mod' (suc a) b))
whole (negsuc a) (negsuc b) =
    sym (neg_ℤ-+ℤ (pos (suc a / suc b * suc b)) (pos (suc a % suc b))) ∙ ap (λ (k : ℕ). neg_ℤ (pos k)) (div-add-mod' (suc a) (suc b))

-- a negated number that is at most a + 1
mag_less : (q a : ℕ) → q ≤ suc a → mag (neg_ℤ (pos q)) ≤ a
mag_less zero a l = omega arith
mag_less (suc q) a l = omega arith

-- the quotient fits the width, but for the lowest number by -1
pub quotient_fits : (h : ℕ) (a b : ℤ) → mag a < h → (a ≡ neg_ℤ (pos h) → b ≡ negsuc 0 → ⊥) → mag (quot_z a b) < h
quotient_fits h (pos a) (pos b) l k = omega (arith, div-le_self a b)
quotient_fits h (pos a) (negsuc b) l k = omega (arith, div-le_self a (suc b), mag-negated (a / suc b))
quotient_fits h (negsuc a) (pos b) l k = omega (arith, mag_less (suc a / b) a (div-le_self (suc a) b))
quotient_fits h (negsuc a) (negsuc zero) l k = go (dec_lt (suc a) h)
  where
    go : Dec (suc a < h) → suc a / 1 < h
    go (yes m) = omega (arith, div-le_self (suc a) 1)
    go (no m) = let e : suc a ≡ h = omega arith in absurd (k (ap (λ (j : ℕ). neg_ℤ (pos j)) e) refl)
quotient_fits h (negsuc a) (negsuc (suc b)) l k =
    omega (arith, div-lt_self {n = suc a} {k = suc (suc b)} (omega arith) (omega arith))

-- quotient * divisor + remainder is the dividend, but for the lowest number by -1
pub dividend-back : (h : ℕ) (a b : ℤ) → mag a < h → is_zero b ≡ false → (a ≡ neg_ℤ (pos h) → b ≡ negsuc 0 → ⊥) → (div_of h a b).value *ℤ b +ℤ (div_of h a b).second ≡ a
dividend-back h a b l e k =
    rw (divided h a b e, wrap-fits h (quot_z a b) (quotient_fits h a b l k)) (whole a b)

rest-smaller : (a b : ℤ) → is_zero b ≡ false → nat_abs (rem_z a b) < nat_abs b
rest-smaller a b e = go a (omega (arith, eqb-false (nat_abs b) 0 e))
  where
    opposite : (r : ℕ) → nat_abs (neg_ℤ (pos r)) ≡ r
    opposite zero = refl
    opposite (suc r) = refl

    go : (a : ℤ) → 0 < nat_abs b → nat_abs (rem_z a b) < nat_abs b
    go (pos a) l = mod-lt a l
    go (negsuc a) l = rw (opposite (suc a % nat_abs b)) (mod-lt (suc a) l)

-- the remainder is smaller than the divisor
pub remainder-smaller : (h : ℕ) (a b : ℤ) → is_zero b ≡ false → nat_abs (div_of h a b).second < nat_abs b
remainder-smaller h a b e = rw (divided h a b e) (rest-smaller a b e)

rest-sign : (a b : ℤ) → (rem_z a b ≡ pos 0) ⊎ (lt_z (rem_z a b) (pos 0) ≡ lt_z a (pos 0))
rest-sign (pos a) b = inr (le-ltb (a % nat_abs b) 0 (omega arith) ∙ sym (le-ltb a 0 (omega arith)))
rest-sign (negsuc a) b = go (suc a % nat_abs b)
  where
    go : (r : ℕ) → (neg_ℤ (pos r) ≡ pos 0) ⊎ (lt_z (neg_ℤ (pos r)) (pos 0) ≡ true)
    go zero = inl refl
    go (suc r) = inr refl

-- the remainder is 0 or has the dividend's sign
pub remainder-sign : (h : ℕ) (a b : ℤ) → is_zero b ≡ false → ((div_of h a b).second ≡ pos 0) ⊎ (lt_z (div_of h a b).second (pos 0) ≡ lt_z a (pos 0))
remainder-sign h a b e = rw (divided h a b e) (rest-sign a b)

-- ---- the flags of ADD and SUB

one_of : (a b c : Bool) → (a ≡ true → b ≡ true → ⊥) → (a ≡ true → c ≡ true → ⊥) → (b ≡ true → c ≡ true → ⊥) → one_if a + one_if b + one_if c ≤ 1
one_of true true c p q r = absurd (p refl refl)
one_of true false true p q r = absurd (q refl refl)
one_of true false false p q r = omega arith
one_of false true true p q r = absurd (r refl refl)
one_of false true false p q r = omega arith
one_of false false true p q r = omega arith
one_of false false false p q r = omega arith

-- of SM180, SM181 and SM182 a sum turns on one at most
pub one-flag : (h : ℕ) (z : ℤ) → 0 < h → (sum_of h z).zero + (sum_of h z).above + (sum_of h z).below ≤ 1
unfolding sum_of
one-flag h z l =
    one_of (is_zero z) (is_above h z) (is_below h z)
    (λ p q. omega (arith, eqb-true (nat_abs z) 0 p, abs-parts z, above-yes h z q))
    (λ p q. omega (arith, eqb-true (nat_abs z) 0 p, abs-parts z, below-yes h z q))
    (λ p q. omega (arith, above-yes h z p, below-yes h z q))

-- ---- ranges

bit-small : (b : Bool) → one_if b < 2
bit-small true = omega arith
bit-small false = omega arith

module _ (h : ℕ) where
  of-value : (z : ℤ) → mag z < h → Bounded h (value z)
  of-value z l = search rules

  of_values : (z y : ℤ) → mag z < h → mag y < h → Bounded h (values z y)
  of_values z y l k = search rules

  of-failure : (e : ℕ) → e ≤ 2 → 0 < h → Bounded h (failure e)
  of-failure e l k = search rules

  of-flagged : (z : ℤ) (x y t : Bool) → mag z < h → Bounded h (flagged z x y t)
  of-flagged z x y t l = let p = bit-small x in let q = bit-small y in let r = bit-small t in search rules

  -- what is picked is bounded where both are, the second where it is picked
  of-pick : (t : Bool) {x y : Outcome} → Bounded h x → (t ≡ false → Bounded h y) → Bounded h (pick t x y)
  of-pick true p q = p
  of-pick false p q = q refl

  -- a number other than the lowest is smaller than h, and so is its opposite
  size_small : (a : ℤ) → mag a < h → is_lowest h a ≡ false → nat_abs a < h
  size_small (pos n) l e = l
  size_small (negsuc n) l e =
      omega (arith, lt_z-true (neg_ℤ (pos h)) (negsuc n) (not-false (lt_z (neg_ℤ (pos h)) (negsuc n)) e), up_neg (pos h), dn-neg (pos h))

  opposite-small : (a : ℤ) → nat_abs a < h → mag (neg_ℤ a) < h
  opposite-small (pos n) l = lt_of_le_of_lt (mag-negated n) l
  opposite-small (negsuc n) l = l

  of-sum : (z : ℤ) → 0 < h → Bounded h (sum_of h z)
  unfolding sum_of
  of-sum z l = of-flagged (wrap h z) (is_zero z) (is_above h z) (is_below h z) (wrap-range h z l)

  of-div : (a b : ℤ) → mag a < h → Bounded h (div_of h a b)
  unfolding div_of
  of-div a b l =
      of-pick (is_zero b)
      (of-failure 1 (omega arith) (omega arith))
      (λ e. of_values (wrap h (quot_z a b)) (rem_z a b) (wrap-range h (quot_z a b) (omega arith)) (lt_of_le_of_lt (mag_rem a b) l))

  of-sqt : (a : ℤ) → mag a < h → Bounded h (sqt_of a)
  unfolding sqt_of
  of-sqt a l =
      let n = nat_abs a in
      let r = root_of n in
      of-pick (lt_z a (pos 0))
      {y = rooted n r}
      (of-failure 2 (omega arith) (omega arith))
      (λ e. of-flagged (pos r) (eqb r 0) false (not (eqb (r * r) n)) (omega (arith, root-small n, ap mag (not_neg a e).1)))

  of-vabs : (a : ℤ) → mag a < h → Bounded h (vabs_of h a)
  unfolding vabs_of
  of-vabs a l =
      of-pick (is_lowest h a) (of-failure 2 (omega arith) (omega arith)) (λ e. of-value (pos (nat_abs a)) (size_small a l e))

  of-neg : (a : ℤ) → mag a < h → Bounded h (neg_of h a)
  unfolding neg_of
  of-neg a l =
      of-pick (is_lowest h a) (of-failure 2 (omega arith) (omega arith)) (λ e. of-value (neg_ℤ a) (opposite-small a (size_small a l e)))

  -- every outcome is in range where the first source is
  pub outcome-bounded : (n : ℕ) (a b : ℤ) → mag a < h → Bounded h (compute_of n h a b)
  unfolding compute_of
  outcome-bounded n a b fa =
      let l : 0 < h = omega arith in
      let stored : (z : ℤ) → Bounded h (value (wrap h z)) = λ z. of-value (wrap h z) (wrap-range h z l) in
      of-pick (is n 33 49) (of-sum (a +ℤ b) l) (λ _.
      of-pick (is n 34 50) (of-sum (a -ℤ b) l) (λ _.
      of-pick (is n 35 52) (of-div a b fa) (λ _.
      of-pick (is n 36 53) (of-sqt a fa) (λ _.
      of-pick (is n 37 54) (stored (a +ℤ pos 1)) (λ _.
      of-pick (is n 38 55) (stored (a -ℤ pos 1)) (λ _.
      of-pick (eqb n 39) (of-vabs a fa) (λ _.
      of-pick (eqb n 40) (of-neg a fa) (λ _.
      of-pick (eqb n 51) (stored (a *ℤ b)) (λ _.
      of-value a fa)))))))))
