-- What an outcome has and has not, and that it fits its width. Assumes nothing.
use Prim.Native.Nat.{ℕ, ◌<◌, ◌≤◌, ◌^◌}
use mathlib.Core.Bool.{Bool, true, false}
use mathlib.Core.List.{List}
use mathlib.Core.Path.{◌≡◌, refl, sym, ap, subst, ◌∙◌}
use native.Mathlib.Omega.{arith}
use lib.Dec.{eqb}
use lib.IntN.{ℤ, pos}
use lib.Signed.{mag, lt_z}
use mir.Syntax.{w64}
use mir.Val.{to_z, of_z}
use Rattle.ec20.proofs.Tests.{picked}
use Rattle.ints.proofs.Parts.{said}
use Rattle.arith.proofs.Laws.{outcome-bounded}
use Rattle.arith.specs.Bounded.{Bounded}
use Rattle.ec20.specs.Basics.{pick}
use Rattle.ec20.specs.Memory.{Memory, memory, store_of, following, with_sm}
use Rattle.ec20.specs.Numbers.{is_zero, is_lowest}
use Rattle.ec20.specs.Words.{compute_of, store_all, with_flags, div_of, sqt_of, vabs_of, neg_of}
use Rattle.ec20.specs.declared.Operand.{Operand}
use Rattle.ec20.specs.declared.Outcome.{Outcome}

-- what an outcome does not have is not stored
pub no_second : (w : ℕ) (o : Operand) (r : Outcome) → r.two ≡ 0 → (c : Memory) → c ≡ pick (eqb r.two 1) (store_of w (following w o) r.second c) c
no_second w o r e c = rw e refl

pub no-flags : (r : Outcome) → r.flags ≡ 0 → (sm : List ℕ) → sm ≡ pick (eqb r.flags 1) (with_flags r sm) sm
no-flags r e sm = rw e refl

-- the flags put, after the values
with-sm-by : (b : Bool) (r : Outcome) (c : Memory) → with_sm c (pick b (with_flags r c.sm) c.sm) ≡ pick b (with_sm c (with_flags r c.sm)) c
with-sm-by true r c = refl
with-sm-by false r c = refl

-- an outcome that is no error, stored: what store, second and flags come to, for any tables that they do not hold
module _ (w : ℕ) (o : Operand) (r : Outcome) (y m sm y1 m1 y2 m2 sm2 : List ℕ) (d d1 d2 : List ℤ) (z : ℤ)
    (is : z ≡ r.value)
    (first : (x sm t : List ℕ) (tv : List ℤ) → memory x y1 m1 sm t d1 tv ≡ store_of w o z (memory x y m sm t d tv))
    (then : (x sm t : List ℕ) (tv : List ℤ) → memory x y2 m2 sm t d2 tv ≡ pick (eqb r.two 1) (store_of w (following w o) r.second (memory x y1 m1 sm t d1 tv)) (memory x y1 m1 sm t d1 tv))
    (last : sm2 ≡ pick (eqb r.flags 1) (with_flags r sm) sm) where
  pub all-stored : (x t : List ℕ) (tv : List ℤ) → memory x y2 m2 sm2 t d2 tv ≡ store_all w o r (memory x y m sm t d tv)
  unfolding store_all
  all-stored x t tv =
      let c2 = then x sm t tv ∙ ap (λ (c : Memory). pick (eqb r.two 1) (store_of w (following w o) r.second c) c) (first x sm t tv ∙ ap (λ (v : ℤ). store_of w o v (memory x y m sm t d tv)) is) in
      ap (λ (l : List ℕ). memory x y2 m2 l t d2 tv) last
      ∙ with-sm-by (eqb r.flags 1) r (memory x y2 m2 sm t d2 tv)
      ∙ ap (λ (c : Memory). pick (eqb r.flags 1) (with_sm c (with_flags r c.sm)) c) c2

-- of an outcome by cases both cases have, or have not, flags and a second value
pub div-flags : (h : ℕ) (a b : ℤ) → (div_of h a b).flags ≡ 0
unfolding div_of
div-flags h a b = picked (λ (o : Outcome). o.flags ≡ 0) (is_zero b) _ _ (λ _. refl) (λ _. refl)

pub sqt-two : (a : ℤ) → (sqt_of a).two ≡ 0
unfolding sqt_of
sqt-two a = picked (λ (o : Outcome). o.two ≡ 0) (lt_z a (pos 0)) _ _ (λ _. refl) (λ _. refl)

pub vabs-two : (h : ℕ) (a : ℤ) → (vabs_of h a).two ≡ 0
unfolding vabs_of
vabs-two h a = picked (λ (o : Outcome). o.two ≡ 0) (is_lowest h a) _ _ (λ _. refl) (λ _. refl)

pub vabs-flags : (h : ℕ) (a : ℤ) → (vabs_of h a).flags ≡ 0
unfolding vabs_of
vabs-flags h a = picked (λ (o : Outcome). o.flags ≡ 0) (is_lowest h a) _ _ (λ _. refl) (λ _. refl)

pub neg-two : (h : ℕ) (a : ℤ) → (neg_of h a).two ≡ 0
unfolding neg_of
neg-two h a = picked (λ (o : Outcome). o.two ≡ 0) (is_lowest h a) _ _ (λ _. refl) (λ _. refl)

pub neg-flags : (h : ℕ) (a : ℤ) → (neg_of h a).flags ≡ 0
unfolding neg_of
neg-flags h a = picked (λ (o : Outcome). o.flags ≡ 0) (is_lowest h a) _ _ (λ _. refl) (λ _. refl)

-- an outcome fits its width, and its values stand as the machine reads them back
module _ (k h : ℕ) (small : h ≤ 2 ^ 31) (u v : ℤ) {r : Outcome} (e : r ≡ compute_of k h u v) (m : mag u < h) where
  pub bounded : Bounded h r
  bounded = subst (Bounded h) (sym e) (outcome-bounded h k u v m)

  pub value-is : to_z w64 (of_z w64 r.value) ≡ r.value
  value-is = said w64 {z = r.value} (omega (arith, bounded.value_fits)) refl

  pub value_fits : mag (to_z w64 (of_z w64 r.value)) < h
  value_fits = rw value-is bounded.value_fits
