-- D words and pairs of them. A table of words is a list of numbers; what lies outside it reads as 0, and a store there changes nothing.
use Rattle.std.specs.Prelude.{ℕ, ◌+◌, ◌*◌, ◌/◌, ◌%◌, ◌^◌, List, get_or, set, eqb, ℤ, pos}
use Rattle.ec20.specs.Basics.{pick}
use Rattle.ec20.specs.Numbers.{low, signed}

-- word i
abbrev pub word_at : List ℤ → ℕ → ℤ
word_at d i = get_or d i (pos 0)

-- "A D pair holds the high word at the lower number."
unfoldable pub pair_at : List ℤ → ℕ → ℤ
pair_at d i = signed (2 ^ 31) (low (2 ^ 16) (word_at d i) * 2 ^ 16 + low (2 ^ 16) (word_at d (i + 1)))

-- the high and the low word of a 32-bit number
unfoldable pub high_word : ℤ → ℤ
high_word v = signed (2 ^ 15) (low (2 ^ 32) v / 2 ^ 16)

unfoldable pub low_word : ℤ → ℤ
low_word v = signed (2 ^ 15) (low (2 ^ 32) v % 2 ^ 16)

-- the table with v in the pair at i
unfoldable pub with_pair : List ℤ → ℕ → ℤ → List ℤ
with_pair d i v = set (set d i (high_word v)) (i + 1) (low_word v)

-- the number in D at i, of w bits: a word at 16, a pair at 32
unfoldable pub number_at : ℕ → List ℤ → ℕ → ℤ
number_at w d i = pick (eqb w 16) (word_at d i) (pair_at d i)

-- the table with z, a number of w bits, there
unfoldable pub with_number : ℕ → List ℤ → ℕ → ℤ → List ℤ
with_number w d i z = pick (eqb w 16) (set d i z) (with_pair d i z)
