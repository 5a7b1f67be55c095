-- The reply of each function, byte by byte, without its CRC.
use Rattle.std.specs.Prelude.{ℕ, zero, suc, ◌+◌, ◌-◌, ◌*◌, ◌/◌, ◌%◌, min, List, [], ◌∷◌, ◌++◌, eqb, ℤ, take}
use Rattle.ec20.specs.Basics.{pick}
use Rattle.ec20.specs.Bits.{packed}
use Rattle.ec20.specs.Numbers.{low}
use Rattle.ec20.specs.Registers.{word_at}
use Rattle.modbus.specs.Frame.{read_coils, read_registers, station_of, function_of, address_of, quantity_of}
use Rattle.modbus.specs.Exceptions.{bytes_of}

-- Byte j of q coils from a on: eight of them, the first lowest. "The remaining bits in the final data byte will be padded with zeros."
unfoldable pub coil_byte : List ℕ → ℕ → ℕ → ℕ → ℕ
coil_byte m a q j = packed m (a + 8 * j) (min 8 (q - 8 * j))

-- the first n of these bytes
unfoldable pub coil_bytes : List ℕ → ℕ → ℕ → ℕ → List ℕ
coil_bytes m a q zero = []
coil_bytes m a q (suc n) = coil_bytes m a q n ++ (coil_byte m a q n ∷ [])

-- n registers from a on, of each "the first byte contains the high order bits and the second contains the low order bits"
unfoldable pub register_bytes : List ℤ → ℕ → ℕ → List ℕ
register_bytes d a zero = []
register_bytes d a (suc n) =
    let u = low 65536 (word_at d (a + n)) in
    register_bytes d a n ++ (u / 256 ∷ u % 256 ∷ [])

-- A read tells station, function, how many bytes follow, and these.
unfoldable pub coils_reply : List ℕ → List ℕ → List ℕ
coils_reply f m = take 2 f ++ (bytes_of (quantity_of f) ∷ coil_bytes m (address_of f) (quantity_of f) (bytes_of (quantity_of f)))

unfoldable pub registers_reply : List ℕ → List ℤ → List ℕ
registers_reply f d = take 2 f ++ (2 * quantity_of f ∷ register_bytes d (address_of f) (quantity_of f))

-- A write tells its first six bytes again: 5 and 6 so answer the request itself, 15 and 16 address and quantity.
unfoldable pub reply_to : List ℕ → List ℕ → List ℤ → List ℕ
reply_to f m d = pick (eqb (function_of f) read_coils) (coils_reply f m) (pick (eqb (function_of f) read_registers) (registers_reply f d) (take 6 f))

-- an exception: station, the request's function with the highest bit on, the code
unfoldable pub exception_to : List ℕ → ℕ → List ℕ
exception_to f e = station_of f ∷ (function_of f % 128 + 128) ∷ e ∷ []
