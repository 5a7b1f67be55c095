-- Memories made by a rule and a seed (reference/FORMAT.md, "Scans").
use Rattle.std.specs.Prelude.{ℕ, zero, suc, ◌+◌, ◌-◌, ◌*◌, ◌/◌, ◌%◌, List, [], ◌∷◌, length, ◌==◌, nat_lt, slice_index, slice_index_or}
use Rattle.ec20.specs.Basics.{pick, list}

-- "byte i is (seed + 37 x i) mod 256": n bytes from v on, each so much more than the one before it
unfoldable pub risen_bytes : ℕ → ℕ → ℕ → List ℕ
risen_bytes n v by = list n (λ i. (v + by * i) % 256)

-- "x = (x x 1664525 + 1013904223) mod 2^32"
unfoldable pub turned_of : ℕ → ℕ
turned_of x = (x * 1664525 + 1013904223) % 4294967296

-- "then x divided by 2^24, a number from 0 to 255"
abbrev pub draw_of : ℕ → ℕ
draw_of x = x / 16777216

-- x after what is drawn for the first bytes: "one draw for each of the .. bytes of bits; then one draw for each word", at its low byte
unfoldable pub state_of : ℕ → ℕ → ℕ → ℕ
state_of bits seed zero = seed
state_of bits seed (suc i) =
    let x = state_of bits seed i in
    pick ((i - bits) % 2 == 0) (turned_of x) x

-- the 16 bits of a word: "(draw mod 16) - 4" of rule 3, "entry (draw mod 8) of 0, 1, -1, 32767, -32768, 2, 1000, -31072" of rule 5
unfoldable pub word_of : ℕ → ℕ → ℕ
word_of rule draw =
    pick (rule == 3) ((draw % 16 + 65532) % 65536)
    (slice_index (0 ∷ 1 ∷ 65535 ∷ 32767 ∷ 32768 ∷ 2 ∷ 1000 ∷ 34464 ∷ []) (draw % 8))

-- byte i, for which x was drawn: a byte of bits, or the low or the high byte of a word
unfoldable pub byte_by : ℕ → ℕ → ℕ → ℕ → ℕ
byte_by rule bits i x =
    pick (nat_lt i bits) (draw_of x)
    (pick ((i - bits) % 2 == 0) (word_of rule (draw_of x) % 256) (word_of rule (draw_of x) / 256))

-- n bytes that are drawn
unfoldable pub drawn_bytes : ℕ → ℕ → ℕ → ℕ → List ℕ
drawn_bytes n bits rule seed = list n (λ i. byte_by rule bits i (state_of bits seed (suc i)))

-- n bytes by each of the rules 0 to 5
unfoldable pub ruled : ℕ → ℕ → ℕ → List (List ℕ)
ruled n bits seed =
    risen_bytes n 0 0
    ∷ risen_bytes n 255 0
    ∷ drawn_bytes n n 2 seed
    ∷ drawn_bytes n bits 3 seed
    ∷ risen_bytes n (seed % 256) 37
    ∷ drawn_bytes n bits 5 seed
    ∷ []

-- the bytes b by a rule. Any other than these, as rule 6, leaves them as they are.
unfoldable pub filled_by : ℕ → ℕ → ℕ → List ℕ → List ℕ
filled_by rule bits seed b = slice_index_or (ruled (length b) bits seed) rule b
