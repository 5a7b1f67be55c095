-- What is put is read back, other words are as they were, and the table keeps its length: of a pair, and of a number of either width.
-- Assumes nothing.
use mathlib.Core.Path.{◌≡◌, ap, ap₂, ◌∙◌}
use mathlib.Core.Bool.{Bool, true, false}
use mathlib.Core.Logic.{◌≢◌}
use mathlib.Core.List.{List}
use Prim.Native.Nat.{ℕ, ◌+◌, ◌*◌, ◌/◌, ◌%◌, ◌^◌, ◌<◌, ◌≤◌}
use native.Mathlib.Omega.{arith}
use lib.Dec.{eqb, lit<}
use lib.IntN.{ℤ, pos}
use lib.ListN.{length, set, length-set}
use lib.Seq.{get_or-set_same, get_or-set_other}
use lib.Signed.{mag}
use Rattle.ec20.specs.Basics.{pick}
use Rattle.ec20.specs.Numbers.{bits_in, half, low, signed, wrap}
use Rattle.ec20.specs.Registers.{word_at, pair_at, high_word, low_word, with_pair, number_at, with_number}
use Rattle.ints.proofs.TwosLaws.{low-lt, low_signed, signed_range, wrap-fits}

-- the low 32 bits of a number are below 2 ^ 32
low-32 : (v : ℤ) → low (2 ^ 32) v < 4294967296
low-32 v = low-lt 4294967296 v (lit< tt)

-- the high word of a number is a word
pub high-word-range : (v : ℤ) → mag (high_word v) < 2 ^ 15
unfolding high_word
high-word-range v = let l = low-32 v in signed_range 32768 (low (2 ^ 32) v / 65536) (omega arith)

-- the low word of a number is a word
pub low-word-range : (v : ℤ) → mag (low_word v) < 2 ^ 15
unfolding low_word
low-word-range v = signed_range 32768 (low (2 ^ 32) v % 65536) (omega arith)

-- a pair holds a number of 32 bits, whatever the two words are
pub pair-range : (d : List ℤ) (i : ℕ) → mag (pair_at d i) < 2 ^ 31
unfolding pair_at
pair-range d i =
    let a = low-lt 65536 (word_at d i) (lit< tt) in
    let b = low-lt 65536 (word_at d (i + 1)) (lit< tt) in
    signed_range 2147483648 (low (2 ^ 16) (word_at d i) * 65536 + low (2 ^ 16) (word_at d (i + 1))) (omega arith)

module _ (d : List ℤ) (i : ℕ) (v : ℤ) where
  -- a store of a pair keeps the table's length
  pub pair-length : length (with_pair d i v) ≡ length d
  unfolding with_pair
  pair-length = simp length-set

  -- a word that is none of the pair's two is as it was
  pub pair-other : (j : ℕ) → j ≢ i → j ≢ i + 1 → word_at (with_pair d i v) j ≡ word_at d j
  unfolding with_pair
  pair-other j a b = get_or-set_other (set d i (high_word v)) (i + 1) j (low_word v) (pos 0) b ∙ get_or-set_other d i j (high_word v) (pos 0) a

  module _ (inside : i + 1 < length d) where
    -- the high word stands first, at the lower number
    pub pair-high : word_at (with_pair d i v) i ≡ high_word v
    unfolding with_pair
    pair-high =
        get_or-set_other (set d i (high_word v)) (i + 1) i (low_word v) (pos 0) (λ e. omega arith)
        ∙ get_or-set_same d i (high_word v) (pos 0) (omega arith)

    -- the low word stands second
    pub pair-low : word_at (with_pair d i v) (i + 1) ≡ low_word v
    unfolding with_pair
    pair-low = get_or-set_same (set d i (high_word v)) (i + 1) (low_word v) (pos 0) (simp length-set inside)

    -- a pair that is put is read back
    pub pair-back : mag v < 2 ^ 31 → pair_at (with_pair d i v) i ≡ v
    unfolding pair_at high_word low_word wrap
    pair-back f =
        let u : ℕ = low (2 ^ 32) v in
        let l : u < 4294967296 = low-32 v in
        ap₂ (λ (x y : ℤ). signed (2 ^ 31) (low (2 ^ 16) x * 2 ^ 16 + low (2 ^ 16) y)) pair-high pair-low
        ∙ ap₂ (λ (x y : ℕ). signed (2 ^ 31) (x * 2 ^ 16 + y)) (low_signed 32768 (u / 65536) (omega arith)) (low_signed 32768 (u % 65536) (omega arith))
        ∙ ap (signed (2 ^ 31)) (omega arith)
        ∙ wrap-fits 2147483648 v f

-- The same of a number of w bits, which takes w / 16 words: each by the two widths once.
module _ (d : List ℤ) (i : ℕ) (v : ℤ) where
  length-by : (b : Bool) → length (pick b (set d i v) (with_pair d i v)) ≡ length d
  length-by true = length-set d i v
  length-by false = pair-length d i v

  other-by : (b : Bool) (j : ℕ) → (i ≤ j → i + pick b 16 32 / 16 ≤ j) → word_at (pick b (set d i v) (with_pair d i v)) j ≡ word_at d j
  other-by true j out = get_or-set_other d i j v (pos 0) (λ e. let l : i + 1 ≤ j = out (omega arith) in omega arith)
  other-by false j out =
      pair-other d i v j
      (λ e. let l : i + 2 ≤ j = out (omega arith) in omega arith)
      (λ e. let l : i + 2 ≤ j = out (omega arith) in omega arith)

  back_by : (b : Bool) → i + pick b 16 32 / 16 ≤ length d → mag v < pick b (2 ^ 15) (2 ^ 31) → pick b (word_at (pick b (set d i v) (with_pair d i v)) i) (pair_at (pick b (set d i v) (with_pair d i v)) i) ≡ v
  back_by true l f = get_or-set_same d i v (pos 0) (omega arith)
  back_by false l f = pair-back d i v (omega arith) f

  module _ (w : ℕ) where
    -- a store of a number keeps the table's length
    pub number-length : length (with_number w d i v) ≡ length d
    unfolding with_number
    number-length = length-by (eqb w 16)

    -- a word that is none of the number's is as it was
    pub number-other : (j : ℕ) → (i ≤ j → i + bits_in w / 16 ≤ j) → word_at (with_number w d i v) j ≡ word_at d j
    unfolding with_number
    number-other = other-by (eqb w 16)

    -- a number that is put is read back
    pub number-back : i + bits_in w / 16 ≤ length d → mag v < half w → number_at w (with_number w d i v) i ≡ v
    unfolding number_at with_number
    number-back = back_by (eqb w 16)
