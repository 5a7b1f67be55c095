-- Bytes side by side are taken together. Assumes nothing.
use Prim.Native.Nat.{ℕ, zero, suc, ◌+◌, ◌*◌, ◌<◌, ◌^◌}
use mathlib.Core.List.{List}
use mathlib.Core.Path.{◌≡◌, refl, sym, ap, ◌∙◌}
use native.Mathlib.Omega.{arith}
use native.Mathlib.Numerals.{add-one}
use lib.Bits.{bit_xor, xor_lt}
use lib.ListN.{length, get_or, drop}
use lib.Seq.{drop-cons}
use Rattle.modbus.specs.Crc.{crc_byte, crc_from}
use Rattle.crc.specs.Eights.{eights, Takes}
use Rattle.crc.proofs.Linear.{Linear, Down, eight-linear, eight-down, twice-down}
use Rattle.crc.proofs.Xor.{xor_assoc}

pub eights-linear : (k : ℕ) → Linear (eights k)
unfolding eights
eights-linear zero a b = refl
eights-linear (suc k) a b = ap (eights k) (eight-linear a b) ∙ eights-linear k (crc_byte 0 a) (crc_byte 0 b)

pub takes_one : (s : List ℕ) (i b : ℕ) → i < length s → b ≡ get_or s i 0 → Takes s i 1 b
unfolding crc_from crc_byte eights Takes
takes_one s i b h e c = rw (add-one, e, drop-cons s i 0 h) refl

-- v and then w, where p is as high as v's k bytes reach
takes-both : (s : List ℕ) (i k m p v w : ℕ) → Down (eights k) p → ((x : ℕ) → eights k (eights k x) ≡ eights m x) → i + k + k ≡ i + m
    → Takes s i k v → Takes s (i + k) k w → Takes s i m (bit_xor v (w * p))
unfolding Takes
takes-both s i k m p v w d t n hv hw c =
    hv c ∙ hw (eights k (bit_xor c v))
    ∙ ap (λ (j : ℕ). crc_from (eights k (bit_xor (eights k (bit_xor c v)) w)) (drop j s)) n
    ∙ ap (λ (x : ℕ). crc_from x (drop (i + m) s))
    (ap (λ (x : ℕ). eights k (bit_xor (eights k (bit_xor c v)) x)) (sym (d w))
    ∙ ap (eights k) (sym (eights-linear k (bit_xor c v) (w * p)))
    ∙ t (bit_xor (bit_xor c v) (w * p))
    ∙ ap (eights m) (xor_assoc c v (w * p)))

down-one : Down (eights 1) 0x100
unfolding eights
down-one = eight-down

down-two : Down (eights 2) 0x10000
unfolding eights
down-two = twice-down (eights 1) 0x100 down-one

down-four : Down (eights 4) 0x100000000
unfolding eights
down-four = twice-down (eights 2) 0x10000 down-two

pub takes_two : (s : List ℕ) (i v w : ℕ) → Takes s i 1 v → Takes s (i + 1) 1 w → Takes s i 2 (bit_xor v (w * 0x100))
unfolding eights
takes_two s i v w = takes-both s i 1 2 0x100 v w down-one (λ x. refl) (omega arith)

pub takes-four : (s : List ℕ) (i v w : ℕ) → Takes s i 2 v → Takes s (i + 2) 2 w → Takes s i 4 (bit_xor v (w * 0x10000))
unfolding eights
takes-four s i v w = takes-both s i 2 4 0x10000 v w down-two (λ x. refl) (omega arith)

pub takes-eight : (s : List ℕ) (i v w : ℕ) → Takes s i 4 v → Takes s (i + 4) 4 w → Takes s i 8 (bit_xor v (w * 0x100000000))
unfolding eights
takes-eight s i v w = takes-both s i 4 8 0x100000000 v w down-four (λ x. refl) (omega arith)

pub two-small : (v w : ℕ) → v < 256 → w < 256 → bit_xor v (w * 0x100) < 2 ^ 16
two-small v w h g = xor_lt 16 v (w * 0x100) (omega arith) (omega arith)

pub four-small : (v w : ℕ) → v < 2 ^ 16 → w < 2 ^ 16 → bit_xor v (w * 0x10000) < 2 ^ 32
four-small v w h g = xor_lt 32 v (w * 0x10000) (omega arith) (omega arith)
