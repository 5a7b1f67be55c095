-- A line of the list of calls, and the call that it is.
use Rattle.std.specs.Prelude.{ℕ, Bool, false, not, List, eqb, length}
use Rattle.ec20.specs.Basics.{pick, list}
use Rattle.ec20.specs.File.{byte_at}

-- it is neither empty nor a remark, which begins with #
abbrev pub is_call : List ℕ → Bool
is_call s = pick (eqb (length s) 0) false (not (eqb (byte_at s 0) 35))

-- a blank is the zero byte that ends a word
abbrev pub letter_of : ℕ → ℕ
letter_of b = pick (eqb b 32) 0 b

-- the first n bytes of the call: those of the line, and zeros after them
unfoldable pub call_of : List ℕ → ℕ → List ℕ
call_of s n = list n (λ i. letter_of (byte_at s i))
