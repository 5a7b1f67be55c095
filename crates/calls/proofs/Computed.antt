-- Calls, numbers and commands, computed by the definitions. Assumes nothing.
use Rattle.std.proofs.Common.{◌≡◌, ℕ, true, false, List, [], ◌∷◌, refl}
use Rattle.calls.specs.Asked.{names, picture, fits_of, is_picture, command_by, command_of, salvage_word, is_salvage}
use Rattle.calls.specs.Numbers.{all_digits, digits_after, is_number, number_of}
use Rattle.calls.specs.Text.{until_zero, after_zero, rest_at, word_of, count_of, same_word, which_from}

-- map --picture f, each ended by a zero byte
abbrev call : List ℕ
call = 109 ∷ 97 ∷ 112 ∷ 0 ∷ 45 ∷ 45 ∷ 112 ∷ 105 ∷ 99 ∷ 116 ∷ 117 ∷ 114 ∷ 101 ∷ 0 ∷ 102 ∷ 0 ∷ []

words : (word_of call 2 ≡ 102 ∷ []) × (word_of call 3 ≡ []) × (count_of call ≡ 3)
unfolding until_zero after_zero rest_at count_of
words = (refl, refl, refl)

-- a picture; no command with a word too few; a job; a salvage
commands : (command_of call ≡ 13) × (command_of (109 ∷ 111 ∷ 118 ∷ 101 ∷ 0 ∷ []) ≡ 12) × (command_of (99 ∷ 104 ∷ 101 ∷ 99 ∷ 107 ∷ 0 ∷ 102 ∷ 0 ∷ []) ≡ 0) × (command_of (106 ∷ 111 ∷ 98 ∷ 0 ∷ 102 ∷ 0 ∷ 103 ∷ 0 ∷ []) ≡ 11) × (is_salvage (115 ∷ 97 ∷ 108 ∷ 118 ∷ 97 ∷ 103 ∷ 101 ∷ 0 ∷ 102 ∷ 0 ∷ 103 ∷ 0 ∷ []) ≡ true)
unfolding until_zero after_zero rest_at count_of same_word which_from names picture fits_of is_picture command_by command_of salvage_word is_salvage
commands = (refl, refl, refl, refl, refl)

-- 4294967295 is one, 4294967296 is none; 007 is 7; no digit, and 1a
numbers : (number_of (52 ∷ 50 ∷ 57 ∷ 52 ∷ 57 ∷ 54 ∷ 55 ∷ 50 ∷ 57 ∷ 53 ∷ []) ≡ 4294967295) × (is_number (52 ∷ 50 ∷ 57 ∷ 52 ∷ 57 ∷ 54 ∷ 55 ∷ 50 ∷ 57 ∷ 54 ∷ []) ≡ false) × (number_of (48 ∷ 48 ∷ 55 ∷ []) ≡ 7) × (is_number [] ≡ false) × (is_number (49 ∷ 97 ∷ []) ≡ false)
unfolding all_digits digits_after is_number number_of
numbers = (refl, refl, refl, refl, refl)
