-- The checksum of case files (reference/FORMAT.md, "Checksum").
use Rattle.std.specs.Prelude.{ℕ, ◌+◌, ◌*◌, ◌%◌, List, [], ◌∷◌}

-- "For each byte in order: a = (a + byte) mod 65521, then b = (b + a) mod 65521. The checksum is b x 65536 + a."
unfoldable pub sum_from : ℕ → ℕ → List ℕ → ℕ
sum_from a b [] = b * 65536 + a
sum_from a b (x ∷ s) =
    let next = (a + x) % 65521 in
    sum_from next ((b + next) % 65521) s

-- "a starts at 1 and b at 0"
abbrev pub sum_of : List ℕ → ℕ
sum_of s = sum_from 1 0 s
