-- DIV and DDIV: what the table and the definition say of both numbers, and what the calls of a division come to. Assumes nothing.
use Prim.Native.Nat.{ℕ, ◌+◌, ◌/◌, ◌<◌, ◌≤◌, ◌^◌}
use mathlib.Core.List.{List}
use mathlib.Core.Logic.{◌⊎◌, inl, inr}
use mathlib.Core.Path.{◌≡◌, refl, sym, ap, subst, ◌∙◌}
use native.Mathlib.Omega.{arith}
use lib.Dec.{eqb}
use lib.IntN.{ℤ}
use lib.Signed.{mag}
use mir.Syntax.{w64}
use Rattle.ec20.specs.Basics.{pick}
use Rattle.ec20.specs.File.{operand_at}
use Rattle.ec20.specs.Memory.{memory, load_of, store_of, following}
use Rattle.ec20.specs.Numbers.{bits_in, half}
use Rattle.ec20.specs.Step.{width_of}
use Rattle.ec20.specs.Table.{table, row_of}
use Rattle.ec20.specs.Words.{compute_of, div_of}
use Rattle.ec20.specs.declared.Operand.{Operand}
use Rattle.ec20.specs.declared.Outcome.{Outcome}
use Rattle.ints.proofs.Parts.{said}
use Rattle.outcomes.proofs.Arms as arms
use Rattle.outcomes.proofs.Outcomes as has
use Rattle.outcomes.specs.Done.{Done, WordAt, Divides, second_of, target_of}

-- what is so of 35 and of 52 is so of a division
of-both : (p : ℕ → Type 0) {n : ℕ} → (n ≡ 35) ⊎ (n ≡ 52) → p 35 → p 52 → p n
of-both p (inl e) a b = subst p (sym e) a
of-both p (inr e) a b = subst p (sym e) b

-- its outcome
computes : {n : ℕ} → (n ≡ 35) ⊎ (n ≡ 52) → (h : ℕ) (a b : ℤ) → div_of h a b ≡ compute_of n h a b
unfolding compute_of
computes e h a b = of-both (λ (k : ℕ). div_of h a b ≡ compute_of k h a b) e refl refl

-- its second source, and its target
second_at : {n : ℕ} → (n ≡ 35) ⊎ (n ≡ 52) → (f : List ℕ) (i : ℕ) → operand_at f (i + 8) ≡ second_of f n i
unfolding row_of table
second_at e f i = of-both (λ (k : ℕ). operand_at f (i + 8) ≡ second_of f k i) e refl refl

target_at : {n : ℕ} → (n ≡ 35) ⊎ (n ≡ 52) → (f : List ℕ) (i : ℕ) → operand_at f (i + 14) ≡ target_of f n i
unfolding row_of table
target_at e f i = of-both (λ (k : ℕ). operand_at f (i + 14) ≡ target_of f k i) e refl refl

-- half of its words are the quotient's
halved : {n : ℕ} → (n ≡ 35) ⊎ (n ≡ 52) → (row_of n).third.extent / 2 ≡ bits_in (width_of n) / 16
unfolding row_of table
halved e = of-both (λ (k : ℕ). (row_of k).third.extent / 2 ≡ bits_in (width_of k) / 16) e refl refl

-- its width has 2 ^ 32 numbers at most
no-wider : {n : ℕ} → (n ≡ 35) ⊎ (n ≡ 52) → half (width_of n) ≤ 2 ^ 31
unfolding row_of table
no-wider e = of-both (λ (k : ℕ). half (width_of k) ≤ 2 ^ 31) e (omega arith) (omega arith)

-- The record of number n at byte i, a division of w bits.
module _ {f : List ℕ} {n w h i : ℕ} (at : WordAt w n i f) (is : Divides n w h) where
  -- how many words on the remainder stands
  pub words-on : (row_of n).third.extent / 2 ≡ bits_in w / 16
  words-on = halved is.number ∙ ap (λ (k : ℕ). bits_in k / 16) at.width

  pub small : h ≤ 2 ^ 31
  small = rw (is.by, ← at.width) (no-wider is.number)

  -- its first source reads u
  module _ (u : ℤ) (range : mag u < half w) where
    fits : mag u < 2 ^ 63
    fits = let near : half w ≤ 2 ^ 31 = rw (← is.by) small in omega (arith, range)

    -- what arith::div asks of it
    pub dividend : mag (arms.held u) < h
    dividend = rw (said w64 {z = u} fits refl, is.by) range

    -- the remainder fits its place, whatever the divisor is
    pub second_fits : (v : ℤ) {r : Outcome} → r ≡ div_of h (arms.held u) (arms.held v) → mag r.second < half w
    second_fits v e =
        rw (← is.by) (has.bounded n h small (arms.held u) (arms.held v) (e ∙ computes is.number h _ _) dividend).second_fits

    -- its second source reads v, and r is their outcome
    module _ (x y m : List ℕ) (d tv : List ℤ)
        (read : (s t : List ℕ) → u ≡ load_of w (operand_at f (i + 2)) (memory x y m s t d tv))
        {v : ℤ} {b : Operand} (from : b ≡ operand_at f (i + 8)) (held : mag v < 2 ^ 63) (then : (s t : List ℕ) → v ≡ load_of w b (memory x y m s t d tv))
        {r : Outcome} (by : r ≡ div_of h (arms.held u) (arms.held v)) where
      outcome : (s t : List ℕ) → r ≡ compute_of n h (arms.held u) (load_of w (second_of f n i) (memory x y m s t d tv))
      outcome =
          arms.of_two f i n w h x y m d tv (arms.held u) (from ∙ second_at is.number f i) held then (by ∙ computes is.number h _ _)

      pub value_fits : mag (arms.held r.value) < half w
      value_fits =
          arms.value_fits f i n n w h refl (sym at.width) is.by small x y m d tv refl fits read range outcome

      pub refused : (r.error ≡ 0 → ⊥) → (s t : List ℕ) → Done n (operand_at f (i + 2)) (second_of f n i) (target_of f n i) (memory x y m s t d tv) r.error (memory x y m s t d tv)
      refused e s t =
          arms.refused f i n n w h refl (sym at.width) is.by small x y m d tv refl fits read range outcome s e t

      pub paired : {o : Operand} → o ≡ operand_at f (i + 14) → r.error ≡ 0 → {y₁ m₁ y₂ m₂ : List ℕ} {d₁ d₂ : List ℤ}
          → ((x s t : List ℕ) (tv : List ℤ) → memory x y₁ m₁ s t d₁ tv ≡ store_of w o (arms.held r.value) (memory x y m s t d tv))
          → ((x s t : List ℕ) (tv : List ℤ) → memory x y₂ m₂ s t d₂ tv ≡ pick (eqb r.two 1) (store_of w (following w o) r.second (memory x y₁ m₁ s t d₁ tv)) (memory x y₁ m₁ s t d₁ tv))
          → (s t : List ℕ) → Done n (operand_at f (i + 2)) (second_of f n i) (target_of f n i) (memory x y m s t d tv) 0 (memory x y₂ m₂ s t d₂ tv)
      paired into fine store second s t =
          arms.paired f i n n w h refl (sym at.width) is.by small x y m d tv refl fits read range outcome s (into ∙ target_at is.number f i) fine store (ap (λ (q : Outcome). q.flags) by ∙ has.div-flags h _ _) second t
