-- How long replies are, and that what is written keeps its size. Assumes nothing.
use Prim.Native.Nat.{ℕ, zero, suc, ◌+◌, ◌*◌}
use mathlib.Core.List.{List, [], ◌∷◌}
use mathlib.Core.Path.{◌≡◌, refl, ◌∙◌}
use native.Mathlib.Omega.{arith}
use lib.IntN.{ℤ}
use lib.ListN.{length, length-append, length-set}
use Rattle.ec20.specs.Bits.{with_bit}
use Rattle.modbus.specs.Replies.{coil_byte, coil_bytes, register_bytes}
use Rattle.modbus.specs.Writes.{coils_taken, registers_taken}

pub coils-told : (m : List ℕ) (a q n : ℕ) → length (coil_bytes m a q n) ≡ n
unfolding coil_bytes
coils-told m a q zero = refl
coils-told m a q (suc n) = length-append (coil_bytes m a q n) (coil_byte m a q n ∷ []) ∙ omega (arith, coils-told m a q n)

pub registers-told : (d : List ℤ) (a n : ℕ) → length (register_bytes d a n) ≡ 2 * n
unfolding register_bytes
registers-told d a zero = refl
registers-told d a (suc n) = length-append (register_bytes d a n) _ ∙ omega (arith, registers-told d a n)

pub coils-kept : (m : List ℕ) (a : ℕ) (f : List ℕ) (n : ℕ) → length (coils_taken m a f n) ≡ length m
unfolding coils_taken with_bit
coils-kept m a f zero = refl
coils-kept m a f (suc n) = length-set (coils_taken m a f n) _ _ ∙ coils-kept m a f n

pub registers-kept : (d : List ℤ) (a : ℕ) (f : List ℕ) (n : ℕ) → length (registers_taken d a f n) ≡ length d
unfolding registers_taken
registers-kept d a f zero = refl
registers-kept d a f (suc n) = length-set (registers_taken d a f n) (a + n) _ ∙ registers-kept d a f n
