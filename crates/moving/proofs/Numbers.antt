-- Numbers of w bits in the exchanged table, for every width w: what is read, what is written, and the length that stays.
use Prim.Native.Nat.{ℕ, ◌+◌, ◌/◌, ◌<◌}
use mathlib.Core.Bool.{Bool, true, false}
use mathlib.Core.Path.{◌≡◌, sym, subst, ◌∙◌}
use mathlib.Core.List.{List}
use native.Mathlib.Omega.{arith}
use lib.Dec.{eqb}
use lib.ListN.{set, length, length-set}
use lib.IntN.{ℤ}
use Rattle.ec20.specs.Basics.{pick}
use Rattle.ec20.specs.Registers.{word_at, pair_at, with_pair, high_word, low_word, number_at, with_number}
use Rattle.ec20.proofs.Tests.{picked}
use Rattle.ec20.specs.Exchange.{exchange_by}
use Rattle.moving.specs.Rename.{Swap, words_of}
use Rattle.moving.proofs.Exchange.{read, write}

-- the e words from number i on go along
abbrev pub Goes : (ℕ → ℕ) → ℕ → ℕ → Type 0
Goes σ e i = (j : ℕ) → j < e → σ (i + j) ≡ σ i + j

-- a number stored keeps the table's length
pub length-number : (w : ℕ) (d : List ℤ) (i : ℕ) (z : ℤ) → length (with_number w d i z) ≡ length d
unfolding with_number with_pair
length-number w d i z =
    picked (λ (l : List ℤ). length l ≡ length d) (eqb w 16) _ _ (λ _. length-set d i z) (λ _. length-set (set d i (high_word z)) (i + 1) (low_word z) ∙ length-set d i (high_word z))

module _ (σ : ℕ → ℕ) (d : List ℤ) (h : Swap σ (length d)) (i : ℕ) where
  pair_read : Goes σ 2 i → pair_at (exchange_by σ d) (σ i) ≡ pair_at d i
  unfolding pair_at
  pair_read g = rw (← g 1 (omega arith), read σ d h i, read σ d h (i + 1))

  read_at : (b : Bool) → Goes σ (pick b 16 32 / 16) i
      → pick b (word_at (exchange_by σ d) (σ i)) (pair_at (exchange_by σ d) (σ i)) ≡ pick b (word_at d i) (pair_at d i)
  read_at true g = read σ d h i
  read_at false g = pair_read g

  -- the number read at the renamed place of the exchanged table is the number read at the place
  pub number_read : (w : ℕ) → Goes σ (words_of w) i → number_at w (exchange_by σ d) (σ i) ≡ number_at w d i
  unfolding number_at
  number_read w g = read_at (eqb w 16) g

  pair_write : (z : ℤ) → Goes σ 2 i → with_pair (exchange_by σ d) (σ i) z ≡ exchange_by σ (with_pair d i z)
  unfolding with_pair
  pair_write z g =
      let d' = set d i (high_word z) in
      let h' : Swap σ (length d') = subst (Swap σ) (sym (length-set d i (high_word z))) h in
      rw (← g 1 (omega arith), write σ d' h' (i + 1) (low_word z), write σ d h i (high_word z))

  write-at : (z : ℤ) (b : Bool) → Goes σ (pick b 16 32 / 16) i
      → pick b (set (exchange_by σ d) (σ i) z) (with_pair (exchange_by σ d) (σ i) z) ≡ exchange_by σ (pick b (set d i z) (with_pair d i z))
  write-at z true g = sym (write σ d h i z)
  write-at z false g = pair_write z g

  -- a number stored at the renamed place of the exchanged table is the number stored at the place, and the table then exchanged
  pub number-write : (w : ℕ) (z : ℤ) → Goes σ (words_of w) i → with_number w (exchange_by σ d) (σ i) z ≡ exchange_by σ (with_number w d i z)
  unfolding with_number
  number-write w z g = write-at z (eqb w 16) g
