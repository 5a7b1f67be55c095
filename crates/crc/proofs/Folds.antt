-- A function that passes through exclusive or is told by its values at the powers of two. By that, what the bits that fall out tell is what 64 shifts
-- leave. Assumes nothing.
use Prim.Native.Nat.{ℕ, zero, suc, ◌*◌, ◌/◌, ◌%◌, ◌<◌, ◌^◌}
use mathlib.Core.Bool.{Bool, true, ◌&&◌}
use mathlib.Core.Path.{◌≡◌, refl, sym, ap, ap₂, ◌∙◌, subst}
use native.Mathlib.Nat.{add-zero, mod-lt, one-mul, zero-mul, mul_comm, pow-suc, div-lt_iff_lt-mul}
use native.Mathlib.Omega.{arith}
use lib.Arith.{lt-one}
use lib.Bits.{bit_xor, xor_self, xor_block, xor_mod, xor_shr, xor_shifted, xor_lt}
use lib.Dec.{eqb}
use borrow.Author.Tests.{eqb-true}
use lib.Pow.{pow_pos, split}
use Rattle.ec20.proofs.Tests.{both}
use Rattle.modbus.specs.Crc.{crc_bit, crc_byte}
use Rattle.crc.specs.Eights.{eights, up, plus, plus2, plus3, outs_of}
use Rattle.crc.proofs.Linear.{Linear}
use Rattle.crc.proofs.Takes.{eights-linear}
use Rattle.crc.proofs.Xor.{by-digit, xor-swap}

at_zero : (f : ℕ → ℕ) → Linear f → f 0 ≡ 0
at_zero f l = ap f (sym (xor_self 0)) ∙ l 0 0 ∙ xor_self (f 0)

-- the test at the powers of two below 2 ^ n
abbrev same : (ℕ → ℕ) → (ℕ → ℕ) → ℕ → Bool
same f g zero = true
same f g (suc n) = eqb (f (2 ^ n)) (g (2 ^ n)) && same f g n

agree : (f g : ℕ → ℕ) → Linear f → Linear g → (n : ℕ) → same f g n ≡ true → (x : ℕ) → x < 2 ^ n → f x ≡ g x
agree f g lf lg zero t x h = ap f (lt-one h) ∙ at_zero f lf ∙ sym (at_zero g lg) ∙ ap g (sym (lt-one h))
agree f g lf lg (suc n) t x h =
    let q = both (eqb (f (2 ^ n)) (g (2 ^ n))) (same f g n) t in
    let high : f (x / 2 ^ n * 2 ^ n) ≡ g (x / 2 ^ n * 2 ^ n) =
    by-digit (λ d. f (d * 2 ^ n) ≡ g (d * 2 ^ n))
    (ap f (zero-mul (2 ^ n)) ∙ at_zero f lf ∙ sym (at_zero g lg) ∙ ap g (sym (zero-mul (2 ^ n))))
    (ap f (one-mul (2 ^ n)) ∙ eqb-true (f (2 ^ n)) (g (2 ^ n)) q.0 ∙ ap g (sym (one-mul (2 ^ n))))
    (x / 2 ^ n) ((div-lt_iff_lt-mul (pow_pos n)).1 (subst (λ (m : ℕ). x < m) (pow-suc 2 n ∙ mul_comm (2 ^ n) 2) h)) in
    let low : f (x % 2 ^ n) ≡ g (x % 2 ^ n) = agree f g lf lg n q.1 (x % 2 ^ n) (mod-lt x (pow_pos n)) in
    let e : bit_xor (x / 2 ^ n * 2 ^ n) (x % 2 ^ n) ≡ x = xor_shifted (x / 2 ^ n) n (x % 2 ^ n) (mod-lt x (pow_pos n)) ∙ split x n in
    ap f (sym e) ∙ lf (x / 2 ^ n * 2 ^ n) (x % 2 ^ n) ∙ ap₂ bit_xor high low ∙ sym (lg (x / 2 ^ n * 2 ^ n) (x % 2 ^ n)) ∙ ap g e

-- ---- the functions that pass through it

sum-linear : (f g : ℕ → ℕ) → Linear f → Linear g → Linear (λ x. bit_xor (f x) (g x))
sum-linear f g lf lg a b = ap₂ bit_xor (lf a b) (lg a b) ∙ xor-swap (f a) (f b) (g a) (g b)

up-linear : (k : ℕ) → Linear (up k)
up-linear k a b =
    ap (λ (x : ℕ). x % 2 ^ 64)
    (sym (ap₂ bit_xor (sym (add-zero (a * 2 ^ k))) (sym (add-zero (b * 2 ^ k)))
    ∙ xor_block k a b 0 0 (pow_pos k) (pow_pos k) ∙ add-zero (bit_xor a b * 2 ^ k)))
    ∙ xor_mod (a * 2 ^ k) (b * 2 ^ k) 64

id-linear : Linear (λ x. x)
id-linear a b = refl

plus-linear : (k : ℕ) → Linear (plus k)
unfolding plus
plus-linear k = sum-linear (λ x. x) (up k) id-linear (up-linear k)

plus2-linear : (j k : ℕ) → Linear (plus2 j k)
unfolding plus2
plus2-linear j k = sum-linear (λ x. bit_xor x (up j x)) (up k) (sum-linear (λ x. x) (up j) id-linear (up-linear j)) (up-linear k)

plus3-linear : (i j k : ℕ) → Linear (plus3 i j k)
unfolding plus3
plus3-linear i j k =
    sum-linear (λ x. bit_xor (bit_xor x (up i x)) (up j x)) (up k)
    (sum-linear (λ x. bit_xor x (up i x)) (up j) (sum-linear (λ x. x) (up i) id-linear (up-linear i)) (up-linear j)) (up-linear k)

after : (f g : ℕ → ℕ) → Linear f → Linear g → Linear (λ x. g (f x))
after f g lf lg a b = ap g (lf a b) ∙ lg (f a) (f b)

outs-linear : Linear outs_of
outs-linear =
    after (λ x. plus 16 (plus 8 (plus2 4 56 (plus3 2 28 32 (plus3 1 14 16 x))))) (plus 32)
    (after (λ x. plus 8 (plus2 4 56 (plus3 2 28 32 (plus3 1 14 16 x)))) (plus 16)
    (after (λ x. plus2 4 56 (plus3 2 28 32 (plus3 1 14 16 x))) (plus 8)
    (after (λ x. plus3 2 28 32 (plus3 1 14 16 x)) (plus2 4 56)
    (after (plus3 1 14 16) (plus3 2 28 32) (plus3-linear 1 14 16) (plus3-linear 2 28 32))
    (plus2-linear 4 56))
    (plus-linear 8))
    (plus-linear 16))
    (plus-linear 32)

-- the last 16 bits that fell out
abbrev pub late : ℕ → ℕ
late x = outs_of x / 2 ^ 48 % 2 ^ 16

late-linear : Linear late
late-linear =
    after (λ x. outs_of x / 2 ^ 48) (λ x. x % 2 ^ 16) (after outs_of (λ x. x / 2 ^ 48) outs-linear (λ a b. xor_shr a b 48)) (λ a b. xor_mod a b 16)

-- what they put into the register
abbrev pub put : ℕ → ℕ
put o = bit_xor (bit_xor o (o / 2 ^ 2)) (o / 2 ^ 15)

put-linear : Linear put
put-linear =
    sum-linear (λ x. bit_xor x (x / 2 ^ 2)) (λ x. x / 2 ^ 15)
    (sum-linear (λ x. x) (λ x. x / 2 ^ 2) id-linear (λ a b. xor_shr a b 2)) (λ a b. xor_shr a b 15)

-- computed at the 64 powers of two
computed : same (λ x. put (late x)) (eights 8) 64 ≡ true
unfolding crc_bit crc_byte eights plus plus2 plus3
computed = refl

folds : (x : ℕ) → x < 2 ^ 64 → put (late x) ≡ eights 8 x
folds = agree (λ x. put (late x)) (eights 8) (after late put late-linear put-linear) (eights-linear 8) 64 computed

put_small : (o : ℕ) → o < 2 ^ 16 → put o < 65536
put_small o h = xor_lt 16 (bit_xor o (o / 2 ^ 2)) (o / 2 ^ 15) (xor_lt 16 o (o / 2 ^ 2) h (omega arith)) (omega arith)

pub folded : (x o : ℕ) → x < 2 ^ 64 → o ≡ outs_of x → (put (o / 2 ^ 48 % 2 ^ 16) ≡ eights 8 x) × (put (o / 2 ^ 48 % 2 ^ 16) < 65536)
folded x o h e = (ap (λ (y : ℕ). put (y / 2 ^ 48 % 2 ^ 16)) e ∙ folds x h, put_small (o / 2 ^ 48 % 2 ^ 16) (mod-lt (o / 2 ^ 48) (pow_pos 16)))
