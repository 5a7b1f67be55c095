-- The CRC of the serial line document (6.2.2): 16 bits, polynomial A001 (8005 with its bits turned round), from FFFF.
use Rattle.std.specs.Prelude.{ℕ, ◌/◌, ◌%◌, List, [], ◌∷◌, ◌++◌, eqb}
use Rattle.std.specs.Int.Bits.{bit_xor}
use Rattle.ec20.specs.Basics.{pick}

-- "shifted in the direction of the least significant bit .. The LSB is extracted and examined. If the LSB was a 1, the register is then exclusive
-- ORed with a preset, fixed value. If the LSB was a 0, no exclusive OR takes place."
unfoldable pub crc_bit : ℕ → ℕ
crc_bit c = pick (eqb (c % 2) 1) (bit_xor (c / 2) 0xa001) (c / 2)

-- "each 8-bit character is exclusive ORed with the register contents .. This process is repeated until eight shifts have been performed."
unfoldable pub crc_byte : ℕ → ℕ → ℕ
crc_byte c b = crc_bit (crc_bit (crc_bit (crc_bit (crc_bit (crc_bit (crc_bit (crc_bit (bit_xor c b))))))))

unfoldable pub crc_from : ℕ → List ℕ → ℕ
crc_from c [] = c
crc_from c (b ∷ bs) =
    let next = crc_byte c b in
    crc_from next bs

-- "preloading a 16-bit register to all 1's"
abbrev pub crc_of : List ℕ → ℕ
crc_of s = crc_from 0xffff s

-- bytes with their CRC after them, "the low-order byte of the field .. first"
unfoldable pub with_crc : List ℕ → List ℕ
with_crc s = s ++ (crc_of s % 256 ∷ crc_of s / 256 ∷ [])
