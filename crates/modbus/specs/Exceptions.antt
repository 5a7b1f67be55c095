-- "Unknown function: exception 01; bad quantity or value: 03; range outside the device, or a write that meets WORK: 02, in that order." Here n is the
-- function, a the first address, q the quantity (of 5 and 6: the value), c the byte count.
use Rattle.std.specs.Prelude.{ℕ, ◌+◌, ◌*◌, ◌/◌, Bool, true, not, ◌&&◌, ◌||◌, List, leb, eqb}
use Rattle.ec20.specs.Basics.{pick}
use Rattle.ec20.specs.Devices.{ec20, meets_work}
use Rattle.modbus.specs.Frame.{read_coils, read_registers, write_coil, write_register, write_coils, function_of, address_of, quantity_of, byte_count_of, is_known}

-- "Coil n is Mn, register n is Dn": M0 to M1999, D0 to D7999
abbrev pub coils : ℕ
coils = 2000

abbrev pub registers : ℕ
registers = 8000

-- the values of function 5: on and off
abbrev pub value_on : ℕ
value_on = 0xff00

abbrev pub value_off : ℕ
value_off = 0

-- so many, and at least one
abbrev pub up_to : ℕ → ℕ → Bool
up_to most q = leb 1 q && leb q most

-- how many bytes hold q coils, eight to a byte
abbrev pub bytes_of : ℕ → ℕ
bytes_of q = (q + 7) / 8

-- Not 03. The quantity limits of the application protocol, 6.1, 6.3, 6.11 and 6.12 (7D0, 7D, 7B0 and 7B in hexadecimal), with the byte count that
-- the quantity has; of 5 one of its two values; of 6 any value.
unfoldable pub quantity_fits : ℕ → ℕ → ℕ → Bool
quantity_fits n q c =
    pick (eqb n read_coils) (up_to 2000 q)
    (pick (eqb n read_registers) (up_to 125 q)
    (pick (eqb n write_coil) (eqb q value_off || eqb q value_on)
    (pick (eqb n write_register) true
    (pick (eqb n write_coils) (up_to 1968 q && eqb c (bytes_of q))
    (up_to 123 q && eqb c (2 * q))))))

-- a function of coils; one that writes a single coil or register
unfoldable pub is_of_coils : ℕ → Bool
is_of_coils n = eqb n read_coils || eqb n write_coil || eqb n write_coils

unfoldable pub is_single : ℕ → Bool
is_single n = eqb n write_coil || eqb n write_register

-- how many coils or registers are meant
unfoldable pub meant : ℕ → ℕ → ℕ
meant n q = pick (is_single n) 1 q

-- Not 02: those meant are in the device and, unless they are only read, do not meet WORK.
unfoldable pub range_fits : ℕ → ℕ → ℕ → Bool
range_fits n a q =
    pick (is_of_coils n) (leb (a + meant n q) coils)
    (leb (a + meant n q) registers && (eqb n read_registers || not (meets_work ec20 a (meant n q))))

-- the exception, or 0
unfoldable pub exception_for : ℕ → ℕ → ℕ → ℕ → ℕ
exception_for n a q c = pick (not (is_known n)) 1 (pick (not (quantity_fits n q c)) 3 (pick (not (range_fits n a q)) 2 0))

-- that of a request
abbrev pub exception_of : List ℕ → ℕ
exception_of f = exception_for (function_of f) (address_of f) (quantity_of f) (byte_count_of f)
