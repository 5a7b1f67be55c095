-- A lent buffer: bytes that are written into it, and what stays.
use Rattle.std.specs.Prelude.{ℕ, ◌+◌, List, ◌++◌, length, take, drop}

-- the buffer b with the bytes s from byte k on; what stands before and after them stays
unfoldable pub over : ℕ → List ℕ → List ℕ → List ℕ
over k s b = take k b ++ (s ++ drop (k + length s) b)

-- the buffer b with the bytes s as its first
unfoldable pub sent : List ℕ → List ℕ → List ℕ
sent s b = s ++ drop (length s) b
