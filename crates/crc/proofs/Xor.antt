-- Laws of exclusive or that the library has not: the operands of several may be taken in any order. Assumes nothing.
use Prim.Native.Nat.{ℕ, zero, suc, ◌+◌, ◌*◌, ◌/◌, ◌%◌, ◌<◌}
use mathlib.Core.Path.{◌≡◌, refl, sym, ap, ap₂, ◌∙◌}
use native.Mathlib.Omega.{arith}
use lib.Arith.{bin_ind}
use lib.Bits.{bit_xor, differ, xor_step, xor_comm, xor_shr, xor_mod}

-- what holds of both digits holds of each
pub by-digit : (P : ℕ → Type 0) → P 0 → P 1 → (x : ℕ) → x < 2 → P x
by-digit P p q zero h = p
by-digit P p q (suc zero) h = q
by-digit P p q (suc (suc x)) h = absurd (omega arith)

pub xor-half : (a b : ℕ) → bit_xor a b / 2 ≡ bit_xor (a / 2) (b / 2)
xor-half a b = xor_shr a b 1

pub xor-odd : (a b : ℕ) → bit_xor a b % 2 ≡ bit_xor (a % 2) (b % 2)
xor-odd a b = xor_mod a b 1

digits : (x : ℕ) → x < 2 → (y : ℕ) → y < 2 → (z : ℕ) → z < 2 → differ (bit_xor x y) z ≡ differ x (bit_xor y z)
digits =
    by-digit (λ x. (y : ℕ) → y < 2 → (z : ℕ) → z < 2 → differ (bit_xor x y) z ≡ differ x (bit_xor y z))
    (by-digit (λ y. (z : ℕ) → z < 2 → differ (bit_xor 0 y) z ≡ differ 0 (bit_xor y z)) (λ z h. refl)
    (by-digit (λ z. differ (bit_xor 0 1) z ≡ differ 0 (bit_xor 1 z)) refl refl))
    (by-digit (λ y. (z : ℕ) → z < 2 → differ (bit_xor 1 y) z ≡ differ 1 (bit_xor y z)) (λ z h. refl)
    (by-digit (λ z. differ (bit_xor 1 1) z ≡ differ 1 (bit_xor 1 z)) refl refl))

pub xor_assoc : (a b c : ℕ) → bit_xor (bit_xor a b) c ≡ bit_xor a (bit_xor b c)
xor_assoc =
    bin_ind (λ (n : ℕ). (b c : ℕ) → bit_xor (bit_xor n b) c ≡ bit_xor n (bit_xor b c)) (λ b c. refl)
    (λ n ih b c. xor_step (bit_xor n b) c
    ∙ ap₂ (λ (x y : ℕ). bit_xor x (c / 2) * 2 + differ y (c % 2)) (xor-half n b) (xor-odd n b)
    ∙ ap₂ (λ (x y : ℕ). x * 2 + y) (ih (b / 2) (c / 2)) (digits (n % 2) (omega arith) (b % 2) (omega arith) (c % 2) (omega arith))
    ∙ sym (ap₂ (λ (x y : ℕ). bit_xor (n / 2) x * 2 + differ (n % 2) y) (xor-half b c) (xor-odd b c))
    ∙ sym (xor_step n (bit_xor b c)))

-- the two in the middle change places
pub xor-swap : (a b c d : ℕ) → bit_xor (bit_xor a b) (bit_xor c d) ≡ bit_xor (bit_xor a c) (bit_xor b d)
xor-swap a b c d =
    xor_assoc a b (bit_xor c d)
    ∙ ap (bit_xor a) (sym (xor_assoc b c d) ∙ ap (λ (x : ℕ). bit_xor x d) (xor_comm b c) ∙ xor_assoc c b d)
    ∙ sym (xor_assoc a c (bit_xor b d))
