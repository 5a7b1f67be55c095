-- What a place allows, by its role: one test is left of them all.
use Prim.Native.Nat.{ℕ, zero, suc}
use mathlib.Core.Path.{◌≡◌, refl, sym, ◌∙◌}
use mathlib.Core.Bool.{Bool, false, ◌||◌, or-false}
use lib.IntN.{pos}
use Rattle.ec20.specs.declared.Operand.{Operand}
use Rattle.ec20.specs.declared.Place.{Place}
use Rattle.ec20.specs.declared.Role.TheVariants.{Unused, BitRead, BitWritten, Source, Target, Changed, Quotient, Timer, Units, Passes, Label}
use Rattle.ec20.specs.Devices.{ec20}
use Rattle.ec20.specs.Operands.{constant_in, one_of, words_in, is_unused, is_bit_read, is_bit_written, is_source, is_target, allowed}

-- the test that counts, and n after it that fail
unfoldable pub then-none : ℕ → Bool → Bool
then-none zero b = b
then-none (suc n) b = then-none n b || false

pub only : (n : ℕ) (b : Bool) → b ≡ then-none n b
unfolding then-none
only zero b = refl
only (suc n) b = only n b ∙ sym (or-false (then-none n b))

module _ (p : Place) (o : Operand) where
  pub unused : p.role ≡ Unused → is_unused o ≡ allowed ec20 p o
  unfolding allowed then-none
  unused e = rw e (only 10 (is_unused o))

  pub bit-read : p.role ≡ BitRead → is_bit_read ec20 o ≡ allowed ec20 p o
  unfolding allowed then-none
  bit-read e = rw e (only 9 (is_bit_read ec20 o))

  pub bit-written : p.role ≡ BitWritten → is_bit_written ec20 o ≡ allowed ec20 p o
  unfolding allowed then-none
  bit-written e = rw e (only 8 (is_bit_written ec20 o))

  pub source : p.role ≡ Source → is_source ec20 p o ≡ allowed ec20 p o
  unfolding allowed then-none is_source
  source e = rw e (only 7 (is_source ec20 p o))

  pub target : p.role ≡ Target → is_target ec20 p o ≡ allowed ec20 p o
  unfolding allowed then-none is_target
  target e = rw e (only 6 (is_target ec20 p o))

  pub changed : p.role ≡ Changed → is_target ec20 p o ≡ allowed ec20 p o
  unfolding allowed then-none is_target
  changed e = rw e (only 5 (is_target ec20 p o))

  pub quotient : p.role ≡ Quotient → words_in ec20 p.extent o ≡ allowed ec20 p o
  unfolding allowed then-none
  quotient e = rw e (only 4 (words_in ec20 p.extent o))

  pub timer : p.role ≡ Timer → one_of ec20 6 o ≡ allowed ec20 p o
  unfolding allowed then-none
  timer e = rw e (only 3 (one_of ec20 6 o))

  pub units : p.role ≡ Units → constant_in (pos 1) (pos 32767) o ≡ allowed ec20 p o
  unfolding allowed then-none
  units e = rw e (only 2 (constant_in (pos 1) (pos 32767) o))

  pub passes : p.role ≡ Passes → constant_in (pos 0) (pos 32767) o ≡ allowed ec20 p o
  unfolding allowed then-none
  passes e = rw e (only 1 (constant_in (pos 0) (pos 32767) o))

  pub label : p.role ≡ Label → one_of ec20 8 o ≡ allowed ec20 p o
  unfolding allowed then-none
  label e = rw e refl
