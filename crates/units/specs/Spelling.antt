-- Numbers "spelt as in (i)": decimal, with no leading zero.
use Rattle.std.specs.Prelude.{ℕ, zero, suc, ◌+◌, ◌-◌, ◌*◌, Bool, ◌&&◌, ◌||◌, List, get_or, ltb, leb, eqb}
use Rattle.ec20.specs.Basics.{pick}
use Rattle.units.specs.declared.Digits.{Digits}
use Rattle.units.specs.Number.{Number}
use Rattle.units.specs.Number as N

-- the bytes that part a line
abbrev pub blank : ℕ
blank = 32

abbrev pub line_feed : ℕ
line_feed = 10

-- byte i of a text; 0, which no line has where it is asked, past its end
abbrev pub byte_in : List ℕ → ℕ → ℕ
byte_in s i = get_or s i 0

-- 0 to 9
abbrev pub is_digit : ℕ → Bool
is_digit b = leb 48 b && leb b 57

-- one digit more, if one stands there
unfoldable pub digit_of : List ℕ → Digits → Digits
digit_of s d = pick (is_digit (byte_in s d.next)) (record { value = d.value * 10 + (byte_in s d.next - 48); next = d.next + 1 }) d

-- the digits from a place on, n of them at most
unfoldable pub digits_of : List ℕ → ℕ → ℕ → Digits
digits_of s from zero = record { value = 0; next = from }
digits_of s from (suc n) = digit_of s (digits_of s from n)

-- no digit; "Leading zeros .. are refused"; or above the most that may stand there
abbrev pub wrong : List ℕ → ℕ → ℕ → Digits → Bool
wrong s from most d = eqb d.next from || (eqb (byte_in s from) 48 && ltb (from + 1) d.next) || ltb most d.value

abbrev pub number_by : List ℕ → ℕ → ℕ → Digits → Number
number_by s from most d = pick (wrong s from most d) N.Misspelt (N.Spelt d.value d.next)

-- The number at a place of a text, `most` at most, which is below 10 ^ 10: with eleven digits, and no zero ahead, it is above.
unfoldable pub number_at : List ℕ → ℕ → ℕ → Number
number_at s from most = number_by s from most (digits_of s from 11)
