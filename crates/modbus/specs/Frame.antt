-- A request: station, function, data, CRC; and which frames get no reply and change nothing.
use Rattle.std.specs.Prelude.{ℕ, ◌+◌, ◌-◌, ◌*◌, Bool, ◌&&◌, ◌||◌, List, leb, eqb, length, take}
use Rattle.ec20.specs.Basics.{pick}
use Rattle.ec20.specs.File.{byte_at, u16_at}
use Rattle.modbus.specs.Crc.{crc_of}

-- "functions 1, 3, 5, 6, 15 and 16"
abbrev pub read_coils : ℕ
read_coils = 1

abbrev pub read_registers : ℕ
read_registers = 3

abbrev pub write_coil : ℕ
write_coil = 5

abbrev pub write_register : ℕ
write_register = 6

abbrev pub write_coils : ℕ
write_coils = 15

abbrev pub write_registers : ℕ
write_registers = 16

-- two bytes as a number: "big-Endian .. the most significant byte is sent first"
unfoldable pub number_in : List ℕ → ℕ → ℕ
number_in f i = byte_at f i * 256 + byte_at f (i + 1)

-- the parts of a request: the station it is for, the function, the first address, the quantity (of 5 and 6: the value), and, of 15 and 16, the
-- byte count
abbrev pub station_of : List ℕ → ℕ
station_of f = byte_at f 0

abbrev pub function_of : List ℕ → ℕ
function_of f = byte_at f 1

abbrev pub address_of : List ℕ → ℕ
address_of f = number_in f 2

abbrev pub quantity_of : List ℕ → ℕ
quantity_of f = number_in f 4

abbrev pub byte_count_of : List ℕ → ℕ
byte_count_of f = byte_at f 6

-- a function whose data are two numbers; one with bytes after these
unfoldable pub is_short : ℕ → Bool
is_short n = eqb n read_coils || eqb n read_registers || eqb n write_coil || eqb n write_register

unfoldable pub is_long : ℕ → Bool
is_long n = eqb n write_coils || eqb n write_registers

abbrev pub is_known : ℕ → Bool
is_known n = is_short n || is_long n

-- The lengths l that the function n can have, with the byte count c: "15 and 16: nine plus the byte count; unknown: 4 to 256". The others have
-- eight bytes.
unfoldable pub length_fits : ℕ → ℕ → ℕ → Bool
length_fits n c l = pick (is_long n) (eqb l (9 + c)) (pick (is_short n) (eqb l 8) (leb 4 l && leb l 256))

-- the last two bytes are the CRC of those before them, the low byte first
unfoldable pub crc_fits : List ℕ → Bool
crc_fits f = eqb (u16_at f (length f - 2)) (crc_of (take (length f - 2) f))

-- a broadcast: station 0
abbrev pub is_broadcast : List ℕ → Bool
is_broadcast f = eqb (station_of f) 0

-- "A frame for another station, of a length its function can't have .. or with a bad CRC gets no reply and changes nothing"
unfoldable pub is_heard : ℕ → List ℕ → Bool
is_heard own f = (eqb (station_of f) own || is_broadcast f) && length_fits (function_of f) (byte_count_of f) (length f) && crc_fits f
