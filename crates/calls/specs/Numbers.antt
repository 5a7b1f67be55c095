-- Numbers in a call.
use Rattle.std.specs.Prelude.{ℕ, ◌+◌, ◌-◌, ◌*◌, Bool, true, cond, ◌&&◌, List, [], ◌∷◌, length, nat_le, nat_lt, Option, Some, None}
use Rattle.calls.specs.Text.{word_of}

-- 0 to 9
abbrev pub is_digit : ℕ → Bool
is_digit b = nat_le 48 b && nat_le b 57

-- "one decimal digit or more, and nothing else": nothing else
unfoldable pub all_digits : List ℕ → Bool
all_digits [] = true
all_digits (b ∷ s) = is_digit b && all_digits s

-- what the number n is with these digits behind it
unfoldable pub digits_after : ℕ → List ℕ → ℕ
digits_after n [] = n
digits_after n (b ∷ s) = digits_after (n * 10 + (b - 48)) s

-- what decimal digits stand for
abbrev pub value_of : List ℕ → ℕ
value_of s = digits_after 0 s

-- "one decimal digit or more, and nothing else", that stand for a number of 32 bits
unfoldable pub is_number : List ℕ → Bool
is_number s = nat_lt 0 (length s) && all_digits s && nat_lt (value_of s) 4294967296

-- "An unsigned 32-bit number; 0 where there is none."
unfoldable pub number_of : List ℕ → ℕ
number_of s = cond (is_number s) (value_of s) 0

-- "each of the four is a number": the words 2 to 5 of a call
unfoldable pub all_numbers : List ℕ → Bool
all_numbers s = is_number (word_of s 2) && is_number (word_of s 3) && is_number (word_of s 4) && is_number (word_of s 5)

-- the number of 32 bits that the digits stand for, where there is one
unfoldable pub number_in : List ℕ → Option ℕ
number_in s = cond (is_number s) (Some (value_of s)) None
