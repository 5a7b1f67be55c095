-- Frames whose CRC is published, computed. Assumes nothing.
use mathlib.Core.List.{[], ◌∷◌}
use mathlib.Core.Path.{◌≡◌, refl}
use Rattle.modbus.specs.Crc.{with_crc}
use Rattle.modbus.proofs.Computing.{requests}

-- the serial line document, 6.2.2: the CRC 1241 hexadecimal is sent as 41, 12; station 2, function 7
pub serial-line : with_crc (0x02 ∷ 0x07 ∷ []) ≡ 0x02 ∷ 0x07 ∷ 0x41 ∷ 0x12 ∷ []
unfolding requests
serial-line = refl

-- 11 03 00 6B 00 03: three registers from 108 on
pub registers-108 : with_crc (0x11 ∷ 0x03 ∷ 0x00 ∷ 0x6b ∷ 0x00 ∷ 0x03 ∷ []) ≡ 0x11 ∷ 0x03 ∷ 0x00 ∷ 0x6b ∷ 0x00 ∷ 0x03 ∷ 0x76 ∷ 0x87 ∷ []
unfolding requests
registers-108 = refl
