-- "The words of a call, which is lent as bytes: word after word, each ended by a zero byte. Word 0 is the command."
use Rattle.std.specs.Prelude.{ℕ, zero, suc, Bool, true, false, cond, ◌&&◌, List, [], ◌∷◌, ◌==◌}

-- what stands ahead of the first byte x: all, where there is none
unfoldable pub until : ℕ → List ℕ → List ℕ
until x [] = []
until x (b ∷ s) =
    let rest = until x s in
    cond (b == x) [] (b ∷ rest)

-- what stands ahead of the first zero byte: all, where there is none
unfoldable pub until_zero : List ℕ → List ℕ
until_zero [] = []
until_zero (b ∷ s) =
    let rest = until_zero s in
    cond (b == 0) [] (b ∷ rest)

-- what stands after it: nothing, where there is none
unfoldable pub after_zero : List ℕ → List ℕ
after_zero [] = []
after_zero (b ∷ s) =
    let rest = after_zero s in
    cond (b == 0) s rest

-- "The call from word i on."
unfoldable pub rest_at : List ℕ → ℕ → List ℕ
rest_at s zero = s
rest_at s (suc i) = after_zero (rest_at s i)

-- "Word i; no byte where the call has no such word."
abbrev pub word_of : List ℕ → ℕ → List ℕ
word_of s i = until_zero (rest_at s i)

-- "How many words the call has": its zero bytes
unfoldable pub count_of : List ℕ → ℕ
count_of [] = 0
count_of (b ∷ s) =
    let rest = count_of s in
    let more = suc rest in
    cond (b == 0) more rest

-- two words are the same
unfoldable pub same_word : List ℕ → List ℕ → Bool
same_word [] [] = true
same_word [] (b ∷ t) = false
same_word (a ∷ s) [] = false
same_word (a ∷ s) (b ∷ t) = a == b && same_word s t

-- of the n words of a list from word k on, the first that is the word w; the one after them where none is
unfoldable pub which_from : List ℕ → List ℕ → ℕ → ℕ → ℕ
which_from w s k zero = k
which_from w s k (suc n) =
    let later = which_from w s (suc k) n in
    cond (same_word w (word_of s k)) k later

-- "Which of the n words of a list the word is, the first as 0; n where it is none."
abbrev pub which_of : List ℕ → List ℕ → ℕ → ℕ
which_of w s n = which_from w s 0 n
