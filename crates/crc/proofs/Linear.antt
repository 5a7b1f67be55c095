-- Shifts of the register pass through exclusive or, and a register whose low bits are 0 is only shifted. So eight shifts are one step: the high
-- byte goes down, and what they make of the low byte, by its two halves, is added. Assumes nothing.
use Prim.Native.Nat.{ℕ, ◌*◌, ◌/◌, ◌%◌, ◌<◌, ◌^◌}
use mathlib.Core.Path.{◌≡◌, refl, sym, ap, ap₂, ◌∙◌, subst}
use native.Mathlib.Omega.{arith}
use native.Mathlib.Nat.{mul_assoc, mod-lt}
use lib.Bits.{bit_xor, xor_zero_r, xor_shr, xor_lt, xor_shifted}
use lib.Dec.{eqb}
use lib.Pow.{pow_pos, split}
use Rattle.ec20.specs.Basics.{pick}
use Rattle.modbus.specs.Crc.{crc_bit, crc_byte}
use Rattle.crc.proofs.Xor.{by-digit, xor-half, xor-odd, xor-swap}

-- a shift without a test: the bit that falls out, times the polynomial
abbrev shift : ℕ → ℕ
shift c = bit_xor (c / 2) (c % 2 * 0xa001)

bit-shift : (c : ℕ) → crc_bit c ≡ shift c
unfolding crc_bit
bit-shift c =
    by-digit (λ d. pick (eqb d 1) (bit_xor (c / 2) 0xa001) (c / 2) ≡ bit_xor (c / 2) (d * 0xa001)) (sym (xor_zero_r (c / 2))) refl
    (c % 2) (omega arith)

times : (x : ℕ) → x < 2 → (y : ℕ) → y < 2 → bit_xor x y * 0xa001 ≡ bit_xor (x * 0xa001) (y * 0xa001)
times =
    by-digit (λ x. (y : ℕ) → y < 2 → bit_xor x y * 0xa001 ≡ bit_xor (x * 0xa001) (y * 0xa001)) (λ y h. refl)
    (by-digit (λ y. bit_xor 1 y * 0xa001 ≡ bit_xor 0xa001 (y * 0xa001)) refl refl)

abbrev pub Linear : (ℕ → ℕ) → Type 0
Linear f = (a b : ℕ) → f (bit_xor a b) ≡ bit_xor (f a) (f b)

bit-linear : Linear crc_bit
bit-linear a b =
    bit-shift (bit_xor a b)
    ∙ ap₂ (λ (x y : ℕ). bit_xor x (y * 0xa001)) (xor-half a b) (xor-odd a b)
    ∙ ap (bit_xor (bit_xor (a / 2) (b / 2))) (times (a % 2) (omega arith) (b % 2) (omega arith))
    ∙ xor-swap (a / 2) (b / 2) (a % 2 * 0xa001) (b % 2 * 0xa001)
    ∙ sym (ap₂ bit_xor (bit-shift a) (bit-shift b))

twice-linear : (f : ℕ → ℕ) → Linear f → Linear (λ x. f (f x))
twice-linear f l a b = ap f (l a b) ∙ l (f a) (f b)

-- eight shifts
abbrev pub eight : ℕ → ℕ
eight c = crc_byte 0 c

pub eight-linear : Linear eight
unfolding crc_byte
eight-linear = twice-linear (λ x. crc_bit (crc_bit (crc_bit (crc_bit x)))) (twice-linear (λ x. crc_bit (crc_bit x)) (twice-linear crc_bit bit-linear))

-- it only shifts a multiple of k
abbrev pub Down : (ℕ → ℕ) → ℕ → Type 0
Down f k = (y : ℕ) → f (y * k) ≡ y

bit-down : Down crc_bit 2
bit-down y =
    let h : y * 2 / 2 ≡ y = omega arith in
    let o : y * 2 % 2 ≡ 0 = omega arith in
    bit-shift (y * 2) ∙ ap₂ (λ (p q : ℕ). bit_xor p (q * 0xa001)) h o ∙ xor_zero_r y

pub twice-down : (f : ℕ → ℕ) (k : ℕ) → Down f k → Down (λ x. f (f x)) (k * k)
twice-down f k d y = ap (λ (x : ℕ). f (f x)) (sym (mul_assoc y k k)) ∙ ap f (d (y * k)) ∙ d y

pub eight-down : Down eight 256
unfolding crc_byte
eight-down =
    twice-down (λ x. crc_bit (crc_bit (crc_bit (crc_bit x)))) 16
    (twice-down (λ x. crc_bit (crc_bit x)) 4 (twice-down crc_bit 2 bit-down))

-- what eight shifts make of a number comes from its k low bits and from the others
parts : (y k : ℕ) → eight y ≡ bit_xor (eight (y / 2 ^ k * 2 ^ k)) (eight (y % 2 ^ k))
parts y k =
    ap eight (sym (xor_shifted (y / 2 ^ k) k (y % 2 ^ k) (mod-lt y (pow_pos k)) ∙ split y k)) ∙ eight-linear (y / 2 ^ k * 2 ^ k) (y % 2 ^ k)

step : (c b : ℕ) → b < 256
    → crc_byte c b ≡ bit_xor (c / 256) (bit_xor (crc_byte 0 (bit_xor c b % 256 / 16 * 16)) (crc_byte 0 (bit_xor c b % 256 % 16)))
unfolding crc_byte
step c b h =
    let z : b / 256 ≡ 0 = omega arith in
    parts (bit_xor c b) 8
    ∙ ap₂ bit_xor (eight-down (bit_xor c b / 256) ∙ xor_shr c b 8 ∙ ap (bit_xor (c / 256)) z ∙ xor_zero_r (c / 256)) (parts (bit_xor c b % 256) 4)

bit-small : (c : ℕ) → c < 65536 → crc_bit c < 65536
bit-small c h = subst (λ (x : ℕ). x < 65536) (sym (bit-shift c)) (xor_lt 16 (c / 2) (c % 2 * 0xa001) (omega arith) (omega arith))

four-small : (c : ℕ) → c < 65536 → crc_bit (crc_bit (crc_bit (crc_bit c))) < 65536
four-small c h = bit-small _ (bit-small _ (bit-small _ (bit-small c h)))

-- the register stays in 16 bits
byte_small : (c b : ℕ) → c < 65536 → b < 256 → crc_byte c b < 65536
unfolding crc_byte
byte_small c b h g = four-small _ (four-small _ (xor_lt 16 c b h (omega arith)))

-- the step, from what the two tables tell
pub stepped : (c b p q : ℕ) → c < 65536 → b < 256 → p ≡ crc_byte 0 (bit_xor c b % 256 / 16 * 16) → q ≡ crc_byte 0 (bit_xor c b % 256 % 16)
    → (bit_xor (c / 256) (bit_xor p q) ≡ crc_byte c b) × (bit_xor (c / 256) (bit_xor p q) < 65536)
stepped c b p q h g ep eq =
    let e : bit_xor (c / 256) (bit_xor p q) ≡ crc_byte c b = ap (bit_xor (c / 256)) (ap₂ bit_xor ep eq) ∙ sym (step c b g) in
    (e, subst (λ (x : ℕ). x < 65536) (sym e) (byte_small c b h g))
