-- Several bytes taken by the register at once.
use Rattle.std.specs.Prelude.{ℕ, zero, suc, ◌+◌, ◌*◌, ◌%◌, ◌^◌, List, ◌≡◌, drop}
use Rattle.std.specs.Int.Bits.{bit_xor}
use Rattle.modbus.specs.Crc.{crc_byte, crc_from}

-- eight shifts, k times
unfoldable pub eights : ℕ → ℕ → ℕ
eights zero x = x
eights (suc k) x =
    let next = crc_byte 0 x in
    eights k next

-- w is the k bytes of s from number i on: added to the register it is taken by eight shifts for each
unfoldable pub Takes : List ℕ → ℕ → ℕ → ℕ → Type 0
Takes s i k w = (c : ℕ) → crc_from c (drop i s) ≡ crc_from (eights k (bit_xor c w)) (drop (i + k) s)

-- moved up by k, in 64 bits
abbrev pub up : ℕ → ℕ → ℕ
up k x = (x * 2 ^ k) % 2 ^ 64

-- added to itself moved up, once, twice and three times
unfoldable pub plus : ℕ → ℕ → ℕ
plus k x = bit_xor x (up k x)

unfoldable pub plus2 : ℕ → ℕ → ℕ → ℕ
plus2 j k x = bit_xor (bit_xor x (up j x)) (up k x)

unfoldable pub plus3 : ℕ → ℕ → ℕ → ℕ → ℕ
plus3 i j k x = bit_xor (bit_xor (bit_xor x (up i x)) (up j x)) (up k x)

-- the bits that fall out of x in 64 shifts
abbrev pub outs_of : ℕ → ℕ
outs_of x = plus 32 (plus 16 (plus 8 (plus2 4 56 (plus3 2 28 32 (plus3 1 14 16 x)))))
