-- The examples of the application protocol (6.1, 6.3, 6.5, 6.6, 6.11, 6.12) and of its exceptions, answered by station 17. Assumes nothing.
use Prim.Native.Nat.{ℕ}
use mathlib.Core.List.{List, [], ◌∷◌}
use mathlib.Core.Path.{◌≡◌, refl}
use lib.IntN.{ℤ, pos, negsuc}
use lib.ListN.{get_or, set, take, replicate}
use Rattle.ec20.specs.Bits.{bit_at, spread}
use Rattle.ec20.specs.Registers.{word_at}
use Rattle.modbus.specs.Answered.{Refused, Silent, Reply}
use Rattle.modbus.specs.Answer.{Answer, answer_of}
use Rattle.modbus.specs.Crc.{with_crc}
use Rattle.modbus.proofs.Computing.{requests}

-- M with the coils of the first example, D with the registers of the second, and a buffer full of 255
abbrev m0 : List ℕ
m0 = spread (replicate 250 0) 19 19 0x056bcd

abbrev d0 : List ℤ
d0 = set (set (replicate 8000 (pos 0)) 107 (pos 0x022b)) 109 (pos 0x64)

abbrev b0 : List ℕ
b0 = replicate 256 255

-- a frame of these bytes and their CRC, answered
abbrev asked : List ℕ → Answer
asked s = answer_of 17 (with_crc s) m0 d0 b0

-- so many bytes are sent: these, with their CRC
abbrev Sends : Answer → ℕ → List ℕ → Type 0
Sends a n s = (a.answer ≡ Reply n) × (take n a.reply ≡ with_crc s) × (get_or a.reply n 0 ≡ 255)

-- 6.1: "Here is an example of a request to read discrete outputs 20-38"
pub coils-20-38 : Sends (asked (17 ∷ 1 ∷ 0x00 ∷ 0x13 ∷ 0x00 ∷ 0x13 ∷ [])) 8 (17 ∷ 1 ∷ 3 ∷ 0xcd ∷ 0x6b ∷ 0x05 ∷ [])
unfolding requests
coils-20-38 = (refl, refl, refl)

-- 6.3: "a request to read registers 108-110"
pub registers-108-110 : Sends (asked (17 ∷ 3 ∷ 0x00 ∷ 0x6b ∷ 0x00 ∷ 0x03 ∷ [])) 11 (17 ∷ 3 ∷ 6 ∷ 0x02 ∷ 0x2b ∷ 0x00 ∷ 0x00 ∷ 0x00 ∷ 0x64 ∷ [])
unfolding requests
registers-108-110 = (refl, refl, refl)

-- 6.5: "a request to write Coil 173 ON"
pub coil-173 : Sends (asked (17 ∷ 5 ∷ 0x00 ∷ 0xac ∷ 0xff ∷ 0x00 ∷ [])) 8 (17 ∷ 5 ∷ 0x00 ∷ 0xac ∷ 0xff ∷ 0x00 ∷ [])
    × (bit_at (asked (17 ∷ 5 ∷ 0x00 ∷ 0xac ∷ 0xff ∷ 0x00 ∷ [])).m 172 ≡ 1)
unfolding requests
coil-173 = ((refl, refl, refl), refl)

-- 6.6: "a request to write register 2 to 00 03 hex"
pub register-2 : Sends (asked (17 ∷ 6 ∷ 0x00 ∷ 0x01 ∷ 0x00 ∷ 0x03 ∷ [])) 8 (17 ∷ 6 ∷ 0x00 ∷ 0x01 ∷ 0x00 ∷ 0x03 ∷ [])
    × (word_at (asked (17 ∷ 6 ∷ 0x00 ∷ 0x01 ∷ 0x00 ∷ 0x03 ∷ [])).d 1 ≡ pos 3)
unfolding requests
register-2 = ((refl, refl, refl), refl)

-- 6.11: "a request to write a series of 10 coils starting at coil 20"
abbrev ten-coils : List ℕ
ten-coils = 17 ∷ 15 ∷ 0x00 ∷ 0x13 ∷ 0x00 ∷ 0x0a ∷ 0x02 ∷ 0xcd ∷ 0x01 ∷ []

pub coils-20-29 : Sends (asked ten-coils) 8 (17 ∷ 15 ∷ 0x00 ∷ 0x13 ∷ 0x00 ∷ 0x0a ∷ [])
    × ((asked ten-coils).m ≡ spread m0 19 10 0x1cd)
unfolding requests
coils-20-29 = ((refl, refl, refl), refl)

-- 6.12: "a request to write two registers starting at 2 to 00 0A and 01 02 hex"
abbrev two-registers : List ℕ
two-registers = 17 ∷ 16 ∷ 0x00 ∷ 0x01 ∷ 0x00 ∷ 0x02 ∷ 0x04 ∷ 0x00 ∷ 0x0a ∷ 0x01 ∷ 0x02 ∷ []

pub registers-2-3 : Sends (asked two-registers) 8 (17 ∷ 16 ∷ 0x00 ∷ 0x01 ∷ 0x00 ∷ 0x02 ∷ [])
    × ((asked two-registers).d ≡ set (set d0 1 (pos 0x0a)) 2 (pos 0x0102))
unfolding requests
registers-2-3 = ((refl, refl, refl), refl)

-- a negative word: FFFF is -1
pub minus_one : word_at (asked (17 ∷ 6 ∷ 0x00 ∷ 0x01 ∷ 0xff ∷ 0xff ∷ [])).d 1 ≡ negsuc 0
unfolding requests
minus_one = refl

-- Exceptions. Coil 2000 is not there: 02. An unknown function: 01. A quantity of 0: 03, also where the range is wrong. A write whose last word meets
-- WORK: 02, and D stays.
pub no-such-coil : Sends (asked (17 ∷ 1 ∷ 0x07 ∷ 0xd0 ∷ 0x00 ∷ 0x01 ∷ [])) 5 (17 ∷ 0x81 ∷ 2 ∷ [])
unfolding requests
no-such-coil = (refl, refl, refl)

pub no-such-function : Sends (asked (17 ∷ 7 ∷ [])) 5 (17 ∷ 0x87 ∷ 1 ∷ [])
unfolding requests
no-such-function = (refl, refl, refl)

pub none-of-them : Sends (asked (17 ∷ 3 ∷ 0xff ∷ 0xff ∷ 0x00 ∷ 0x00 ∷ [])) 5 (17 ∷ 0x83 ∷ 3 ∷ [])
unfolding requests
none-of-them = (refl, refl, refl)

pub last-in-work : Sends (asked (17 ∷ 16 ∷ 0x1e ∷ 0xdb ∷ 0x00 ∷ 0x02 ∷ 0x04 ∷ 0x00 ∷ 0x0a ∷ 0x01 ∷ 0x02 ∷ [])) 5 (17 ∷ 0x90 ∷ 2 ∷ [])
    × ((asked (17 ∷ 16 ∷ 0x1e ∷ 0xdb ∷ 0x00 ∷ 0x02 ∷ 0x04 ∷ 0x00 ∷ 0x0a ∷ 0x01 ∷ 0x02 ∷ [])).d ≡ d0)
unfolding requests
last-in-work = ((refl, refl, refl), refl)

-- WORK may be read
pub work-read : (asked (17 ∷ 3 ∷ 0x1e ∷ 0xdc ∷ 0x00 ∷ 0x01 ∷ [])).answer ≡ Reply 7
unfolding requests
work-read = refl

-- silence: another station, a length that 3 cannot have, a CRC whose bytes are exchanged; a broadcast that reads, and one that writes
pub others-silent : ((asked (16 ∷ 3 ∷ 0x00 ∷ 0x6b ∷ 0x00 ∷ 0x03 ∷ [])).answer ≡ Silent)
    × ((asked (17 ∷ 3 ∷ 0x00 ∷ 0x6b ∷ 0x00 ∷ 0x03 ∷ 0x00 ∷ [])).answer ≡ Silent)
    × ((answer_of 17 (17 ∷ 3 ∷ 0x00 ∷ 0x6b ∷ 0x00 ∷ 0x03 ∷ 0x87 ∷ 0x76 ∷ []) m0 d0 b0).answer ≡ Silent)
    × ((asked (0 ∷ 3 ∷ 0x00 ∷ 0x6b ∷ 0x00 ∷ 0x03 ∷ [])).answer ≡ Silent)
    × ((asked (0 ∷ 6 ∷ 0x00 ∷ 0x01 ∷ 0x00 ∷ 0x03 ∷ [])).answer ≡ Silent)
    × (word_at (asked (0 ∷ 6 ∷ 0x00 ∷ 0x01 ∷ 0x00 ∷ 0x03 ∷ [])).d 1 ≡ pos 3)
    × ((asked (0 ∷ 6 ∷ 0x00 ∷ 0x01 ∷ 0x00 ∷ 0x03 ∷ [])).reply ≡ b0)
unfolding requests
others-silent = (refl, refl, refl, refl, refl, refl, refl)

-- 9 goes before 16, and both before the frame
pub refusals : ((answer_of 0 [] (replicate 249 0) d0 b0).answer ≡ Refused 9 0)
    × ((answer_of 0 [] m0 d0 b0).answer ≡ Refused 16 0)
    × ((answer_of 248 [] m0 d0 b0).answer ≡ Refused 16 0)
    × ((answer_of 17 [] m0 d0 (replicate 255 0)).answer ≡ Refused 16 0)
    × ((answer_of 247 [] m0 d0 b0).answer ≡ Silent)
unfolding requests
refusals = (refl, refl, refl, refl, refl)
