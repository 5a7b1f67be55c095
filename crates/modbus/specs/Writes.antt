-- What a request without an exception leaves in M and D.
use Rattle.std.specs.Prelude.{ℕ, zero, suc, ◌+◌, ◌*◌, List, eqb, ℤ, set}
use Rattle.ec20.specs.Basics.{pick, one_if}
use Rattle.ec20.specs.Bits.{bit_at, with_bit}
use Rattle.ec20.specs.Numbers.{signed}
use Rattle.modbus.specs.Frame.{write_coil, write_register, write_coils, write_registers, number_in, function_of, address_of, quantity_of}
use Rattle.modbus.specs.Exceptions.{value_on}

-- the n coils from a on take the bits of the request from its byte 7 on, "the low order bit of the first byte" first: bit 56 is the first
unfoldable pub coils_taken : List ℕ → ℕ → List ℕ → ℕ → List ℕ
coils_taken m a f zero = m
coils_taken m a f (suc n) = with_bit (coils_taken m a f n) (a + n) (bit_at f (56 + n))

-- a register's 16 bits as a word of D
abbrev pub word_of : ℕ → ℤ
word_of u = signed 32768 u

-- the n registers from a on take the numbers of the request from its byte 7 on
unfoldable pub registers_taken : List ℤ → ℕ → List ℕ → ℕ → List ℤ
registers_taken d a f zero = d
registers_taken d a f (suc n) = set (registers_taken d a f n) (a + n) (word_of (number_in f (7 + 2 * n)))

-- M afterwards: 5 makes its coil on or off, 15 writes its coils
unfoldable pub coils_after : List ℕ → List ℕ → List ℕ
coils_after f m =
    pick (eqb (function_of f) write_coil) (with_bit m (address_of f) (one_if (eqb (quantity_of f) value_on)))
    (pick (eqb (function_of f) write_coils) (coils_taken m (address_of f) f (quantity_of f))
    m)

-- D afterwards: 6 writes its value, 16 its registers
unfoldable pub registers_after : List ℕ → List ℤ → List ℤ
registers_after f d =
    pick (eqb (function_of f) write_register) (set d (address_of f) (word_of (quantity_of f)))
    (pick (eqb (function_of f) write_registers) (registers_taken d (address_of f) f (quantity_of f))
    d)
