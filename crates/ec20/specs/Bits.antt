-- Bits: "packed eight to a byte, lowest number in the lowest bit", and groups of them. A bit is 0 or 1.
use Rattle.std.specs.Prelude.{ℕ, zero, suc, ◌+◌, ◌*◌, ◌/◌, ◌%◌, ◌^◌, List, get_or, set, ℤ, leb}
use Rattle.ec20.specs.Basics.{pick}
use Rattle.ec20.specs.Numbers.{bits_in, half, low, signed}

-- bit j of the number x
abbrev pub bit_of : ℕ → ℕ → ℕ
bit_of x j = x / 2 ^ j % 2

-- bit number k of a table
unfoldable pub bit_at : List ℕ → ℕ → ℕ
bit_at bs k = bit_of (get_or bs (k / 8) 0) (k % 8)

-- x with b for bit j: what stands above bit j, then b, then what stands below
unfoldable pub byte_with : ℕ → ℕ → ℕ → ℕ
byte_with x j b = (x / 2 ^ j / 2 * 2 + b) * 2 ^ j + x % 2 ^ j

-- the table with b for bit number k
unfoldable pub with_bit : List ℕ → ℕ → ℕ → List ℕ
with_bit bs k b = set bs (k / 8) (byte_with (get_or bs (k / 8) 0) (k % 8) b)

-- the n bits from number i on as a number, the first lowest
unfoldable pub packed : List ℕ → ℕ → ℕ → ℕ
packed bs i zero = 0
packed bs i (suc n) = packed bs i n + bit_at bs (i + n) * 2 ^ n

-- the table with the low n bits of v in the bits from number i on
unfoldable pub spread : List ℕ → ℕ → ℕ → ℕ → List ℕ
spread bs i zero v = bs
spread bs i (suc n) v = with_bit (spread bs i n v) (i + n) (bit_of v n)

-- How many bits a group of size n has, as a number of w bits: 4n, and never more than these.
abbrev pub group_size : ℕ → ℕ → ℕ
group_size w n = pick (leb (4 * n) (bits_in w)) (4 * n) (bits_in w)

-- "A group packs 4n bits into a number, the first bit lowest; missing high bits read as 0; a group of the full width is two's
-- complement": a number of less than the full width is below half w, and so is itself.
unfoldable pub group_at : ℕ → List ℕ → ℕ → ℕ → ℤ
group_at w bs i n = signed (half w) (packed bs i (group_size w n))

-- "A group target takes the low 4n bits."
unfoldable pub with_group : ℕ → List ℕ → ℕ → ℕ → ℤ → List ℕ
with_group w bs i n v = spread bs i (group_size w n) (low (half w + half w) v)
