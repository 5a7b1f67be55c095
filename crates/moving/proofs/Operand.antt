-- What an operand reads and writes of D, by its words there, and what becomes of them when it is renamed. The other proofs of
-- this crate ask no more of an operand in D than `in_d` and `start_of`; here its kind and value are looked at. Assumes nothing.
use Prim.Native.Nat.{ℕ, ◌+◌}
use mathlib.Core.Bool.{Bool, true, false}
use mathlib.Core.List.{List}
use mathlib.Core.Path.{◌≡◌, refl, sym, ap, subst, ◌∙◌}
use lib.IntN.{ℤ}
use Rattle.ec20.specs.declared.Operand.{Operand}
use Rattle.ec20.specs.declared.Place.{Place}
use Rattle.ec20.specs.Basics.{pick}
use Rattle.ec20.specs.Devices.{kind_y, kind_m, kind_d}
use Rattle.ec20.specs.Operands.{kind_is, in_d, start_of, extent_of}
use Rattle.ec20.specs.Registers.{number_at, with_number}
use Rattle.ec20.specs.Memory.{Memory, with_d, group_bits, load_of, store_of, following}
use Rattle.ec20.proofs.InD.{in-kind, in-D-value}
use Rattle.ec20.proofs.Tests.{differ, picked}
use Rattle.moving.specs.Rename.{rename_operand, words_of}

-- what goes along on both sides of a test goes along
pub pick-sim {ℓ} : {A : Type ℓ} (g : A → A) (t : Bool) (x y x' y' : A) → (t ≡ true → x' ≡ g x) → (t ≡ false → y' ≡ g y)
    → pick t x' y' ≡ g (pick t x y)
pick-sim g true x y x' y' p q = p refl
pick-sim g false x y x' y' p q = q refl

-- an operand has words in D, or none
pub in-or-not : {A : Type 0} (o : Operand) → (in_d o ≡ true → A) → (in_d o ≡ false → A) → A
in-or-not {A} o f g = go (in_d o) refl
  where
    go : (t : Bool) → in_d o ≡ t → A
    go true e = f e
    go false e = g e

-- at a place it takes as many as the place says
pub extent-place : (p : Place) (o : Operand) → extent_of p o ≡ p.extent
unfolding extent_of
extent-place p o = refl

-- ---- renamed

module _ (σ : ℕ → ℕ) (o : Operand) where
  pub rename-D : in_d o ≡ true → rename_operand σ o ≡ record { kind = o.kind; group = o.group; value = σ (start_of o) }
  unfolding rename_operand
  rename-D e = rw e refl

  pub rename-other : in_d o ≡ false → rename_operand σ o ≡ o
  unfolding rename_operand
  rename-other e = rw e refl

  -- it has words in D as it had and as many, from the renamed number on
  pub rename-in : in_d (rename_operand σ o) ≡ in_d o
  rename-in = in-or-not o (λ e. ap in_d (rename-D e) ∙ in-D-value o (σ (start_of o))) (λ e. ap in_d (rename-other e))

  pub rename-extent : (p : Place) → extent_of p (rename_operand σ o) ≡ extent_of p o
  rename-extent p = extent-place p (rename_operand σ o) ∙ sym (extent-place p o)

  pub rename-start : in_d o ≡ true → start_of (rename_operand σ o) ≡ σ (start_of o)
  unfolding start_of
  rename-start e = ap start_of (rename-D e)

-- ---- what it reads and writes

-- a source in D reads the number at its first word, and any other nothing of D
pub load-D : (w : ℕ) (o : Operand) (c : Memory) → in_d o ≡ true → load_of w o c ≡ number_at w c.d (start_of o)
unfolding load_of start_of
load-D w o c e =
    subst (λ (k : ℕ). load_of w (record { kind = k; group = o.group; value = o.value }) c ≡ number_at w c.d o.value) (sym (in-kind o e)) refl

pub load-other : (w : ℕ) (o : Operand) (c : Memory) (l : List ℤ) → in_d o ≡ false → load_of w o (with_d c l) ≡ load_of w o c
unfolding load_of group_bits in_d
load-other w o c l e = let k : kind_is kind_d o ≡ false = e in rw k refl

-- a target in D writes the number at its first word, and any other nothing of D
pub store-D : (w : ℕ) (o : Operand) (z : ℤ) (c : Memory) → in_d o ≡ true → store_of w o z c ≡ with_d c (with_number w c.d (start_of o) z)
unfolding store_of start_of
store-D w o z c e =
    subst (λ (k : ℕ). store_of w (record { kind = k; group = o.group; value = o.value }) z c ≡ with_d c (with_number w c.d o.value z))
    (sym (in-kind o e)) refl

module _ (w : ℕ) (o : Operand) (z : ℤ) (c : Memory) where
  pub store_other : (l : List ℤ) → in_d o ≡ false → store_of w o z (with_d c l) ≡ with_d (store_of w o z c) l
  unfolding store_of in_d
  store_other l e =
      let g : Memory → Memory = λ c. with_d c l in
      pick-sim g (kind_is kind_d o) _ _ _ _
      (λ q. differ (sym q ∙ e))
      (λ _. pick-sim g (kind_is kind_y o) _ _ _ _ (λ _. refl) (λ _. pick-sim g (kind_is kind_m o) _ _ _ _ (λ _. refl) (λ _. refl)))

  pub store_kept : in_d o ≡ false → (store_of w o z c).d ≡ c.d
  unfolding store_of in_d
  store_kept e =
      let P : Memory → Type 0 = λ (k : Memory). k.d ≡ c.d in
      picked P (kind_is kind_d o) _ _
      (λ q. differ (sym q ∙ e))
      (λ _. picked P (kind_is kind_y o) _ _ (λ _. refl) (λ _. picked P (kind_is kind_m o) _ _ (λ _. refl) (λ _. refl)))

-- ---- the target that follows, for the remainder

module _ (w : ℕ) (o : Operand) where
  pub follow-in : in_d (following w o) ≡ in_d o
  follow-in = in-D-value o _

  pub follow-start : start_of (following w o) ≡ start_of o + words_of w
  unfolding start_of
  follow-start = refl

  -- what follows the renamed target is what follows the target, renamed, if its first word goes along
  pub follow-D : (σ : ℕ → ℕ) → in_d o ≡ true → σ (start_of o + words_of w) ≡ σ (start_of o) + words_of w
      → following w (rename_operand σ o) ≡ rename_operand σ (following w o)
  unfolding start_of
  follow-D σ e h =
      ap (following w) (rename-D σ o e)
      ∙ ap (λ (a : ℕ). record { kind = o.kind; group = o.group; value = a }) (sym h)
      ∙ sym (rename-D σ (following w o) (follow-in ∙ e))

  pub follow-other : (σ : ℕ → ℕ) → in_d o ≡ false → following w (rename_operand σ o) ≡ rename_operand σ (following w o)
  follow-other σ e = ap (following w) (rename-other σ o e) ∙ sym (rename-other σ (following w o) (follow-in ∙ e))
