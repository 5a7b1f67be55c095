-- An arm of a word instruction with flow: what its calls give, put together into what the definition says. One law for each way of storing
-- serves both widths: w bits, of which h is half the numbers. Assumes nothing.
use Prim.Native.Nat.{ℕ, ◌+◌, ◌<◌, ◌≤◌, ◌^◌}
use mathlib.Core.List.{List, []}
use mathlib.Core.Path.{◌≡◌, refl, sym, ap, subst, ◌∙◌}
use lib.Dec.{eqb}
use lib.IntN.{ℤ}
use lib.Signed.{mag}
use mir.Syntax.{w64}
use mir.Val.{to_z, of_z}
use borrow.Author.Tests.{ne_eqb}
use Rattle.arith.specs.Bounded.{Bounded}
use Rattle.ec20.specs.Basics.{pick}
use Rattle.ec20.specs.File.{operand_at}
use Rattle.ec20.specs.Memory.{Memory, memory, load_of, store_of, following}
use Rattle.ec20.specs.Numbers.{half}
use Rattle.ec20.specs.Step.{width_of, outcome_of}
use Rattle.ec20.specs.Words.{compute_of, store_all, with_flags}
use Rattle.ec20.specs.declared.Operand.{Operand}
use Rattle.ec20.specs.declared.Outcome.{Outcome}
use Rattle.ints.proofs.Parts.{said}
use Rattle.outcomes.proofs.Outcomes as has
use Rattle.outcomes.specs.Done.{Done, second_of, target_of}

-- a number as the machine hands it on
abbrev pub held : ℤ → ℤ
held z = to_z w64 (of_z w64 z)

-- The record of number n at byte i, in the arm of number k. Its first source, read from the tables, is u; r is the outcome, of that and of
-- what the second source reads, if there is one.
module _ (f : List ℕ) (i n k w h : ℕ) (key : n ≡ k) (wide : w ≡ width_of k) (by : h ≡ half w) (small : h ≤ 2 ^ 31)
    (x y m : List ℕ) (d tv : List ℤ)
    {a : Operand} (first : a ≡ operand_at f (i + 2))
    {u : ℤ} (fits : mag u < 2 ^ 63) (read : (s t : List ℕ) → u ≡ load_of w a (memory x y m s t d tv)) (range : mag u < half w)
    {r : Outcome} (is : (s t : List ℕ) → r ≡ compute_of k h (held u) (load_of w (second_of f k i) (memory x y m s t d tv))) where
  -- the arm's own number for the record's
  at-number : {q : ℕ} {c after : Memory} → Done k (operand_at f (i + 2)) (second_of f k i) (target_of f k i) c q after → Done n (operand_at f (i + 2)) (second_of f n i) (target_of f n i) c q after
  at-number {q = q} {c = c} {after = after} g =
      subst (λ (j : ℕ). Done j (operand_at f (i + 2)) (second_of f j i) (target_of f j i) c q after) (sym key) g

  outcome : (s t : List ℕ) → r ≡ outcome_of k (operand_at f (i + 2)) (second_of f k i) (memory x y m s t d tv)
  unfolding outcome_of
  outcome s t = is s t ∙ rw (said w64 fits (read s t), first, by, wide) refl

  bounded : Bounded h r
  bounded = has.bounded k h small (held u) _ (is [] []) (rw (said w64 {z = u} fits refl, by) range)

  value-is : held r.value ≡ r.value
  value-is = has.value-is k h small (held u) _ (is [] []) (rw (said w64 {z = u} fits refl, by) range)

  -- what is stored fits its place
  pub value_fits : mag (held r.value) < half w
  value_fits = rw (value-is, ← by) bounded.value_fits

  pub flags-fit : (r.zero < 2) × (r.above < 2) × (r.below < 2)
  flags-fit = (bounded.zero_bit, bounded.above_bit, bounded.below_bit)

  -- an error changes nothing
  pub refused : (sm : List ℕ) → (r.error ≡ 0 → ⊥) → (t : List ℕ) → Done n (operand_at f (i + 2)) (second_of f n i) (target_of f n i) (memory x y m sm t d tv) r.error (memory x y m sm t d tv)
  refused sm e t =
      at-number (record { error = ap (λ (o : Outcome). o.error) (outcome sm t); stored = rw (ne_eqb _ _ e) refl })

  module _ (sm : List ℕ) {o : Operand} (into : o ≡ target_of f k i) (fine : r.error ≡ 0)
      {y₁ m₁ : List ℕ} {d₁ : List ℤ} (store : (x s t : List ℕ) (tv : List ℤ) → memory x y₁ m₁ s t d₁ tv ≡ store_of w o (held r.value) (memory x y m s t d tv)) where
    -- stored whole
    kept : {after : Memory} (t : List ℕ) → after ≡ store_all w o r (memory x y m sm t d tv) → Done n (operand_at f (i + 2)) (second_of f n i) (target_of f n i) (memory x y m sm t d tv) 0 after
    kept t e =
        at-number (record { error = sym fine ∙ ap (λ (o : Outcome). o.error) (outcome sm t); stored = e ∙ rw (into, wide, outcome sm t) refl })

    -- one value, and its flags
    pub flagged : r.two ≡ 0 → {sm₁ : List ℕ} → sm₁ ≡ pick (eqb r.flags 1) (with_flags r sm) sm
        → (t : List ℕ) → Done n (operand_at f (i + 2)) (second_of f n i) (target_of f n i) (memory x y m sm t d tv) 0 (memory x y₁ m₁ sm₁ t d₁ tv)
    flagged one flags t =
        kept t (has.all-stored w o r y m sm y₁ m₁ y₁ m₁ _ d d₁ d₁ (held r.value) value-is store (λ x s t tv. has.no_second w o r one _) flags x t tv)

    -- one value alone
    pub alone : r.two ≡ 0 → r.flags ≡ 0
        → (t : List ℕ) → Done n (operand_at f (i + 2)) (second_of f n i) (target_of f n i) (memory x y m sm t d tv) 0 (memory x y₁ m₁ sm t d₁ tv)
    alone one none t =
        kept t (has.all-stored w o r y m sm y₁ m₁ y₁ m₁ sm d d₁ d₁ (held r.value) value-is store (λ x s t tv. has.no_second w o r one _) (has.no-flags r none sm) x t tv)

    -- two values
    pub paired : r.flags ≡ 0 → {y₂ m₂ : List ℕ} {d₂ : List ℤ}
        → ((x s t : List ℕ) (tv : List ℤ) → memory x y₂ m₂ s t d₂ tv ≡ pick (eqb r.two 1) (store_of w (following w o) r.second (memory x y₁ m₁ s t d₁ tv)) (memory x y₁ m₁ s t d₁ tv))
        → (t : List ℕ) → Done n (operand_at f (i + 2)) (second_of f n i) (target_of f n i) (memory x y m sm t d tv) 0 (memory x y₂ m₂ sm t d₂ tv)
    paired none {y₂} {m₂} {d₂} second t =
        kept t (has.all-stored w o r y m sm y₁ m₁ y₂ m₂ sm d d₁ d₂ (held r.value) value-is store second (has.no-flags r none sm) x t tv)

-- the outcome of two sources, where the table has two
pub of_two : (f : List ℕ) (i k w h : ℕ) (x y m : List ℕ) (d tv : List ℤ) (u : ℤ) {v : ℤ} {b : Operand} {r : Outcome}
    → b ≡ second_of f k i → mag v < 2 ^ 63 → ((s t : List ℕ) → v ≡ load_of w b (memory x y m s t d tv)) → r ≡ compute_of k h u (held v)
    → (s t : List ℕ) → r ≡ compute_of k h u (load_of w (second_of f k i) (memory x y m s t d tv))
of_two f i k w h x y m d tv u second fits read e s t =
    e ∙ ap (compute_of k h u) (said w64 fits (read s t) ∙ ap (λ (o : Operand). load_of w o (memory x y m s t d tv)) second)

-- what the first source reads, handed on to another function
pub handed : (w : ℕ) (x y m : List ℕ) (d tv : List ℤ) {a o : Operand} {u : ℤ}
    → a ≡ o → mag u < 2 ^ 63 → ((s t : List ℕ) → u ≡ load_of w a (memory x y m s t d tv)) → mag u < half w
    → ((s t : List ℕ) → held u ≡ load_of w o (memory x y m s t d tv)) × (mag (held u) < half w)
handed w x y m d tv {u = u} first fits read range =
    (λ s t. said w64 fits (read s t) ∙ ap (λ (o : Operand). load_of w o (memory x y m s t d tv)) first, rw (said w64 {z = u} fits refl) range)
