-- The frame that the bytes held begin with. Bytes are held from when they came over the line until a frame is taken.
use Rattle.std.specs.Prelude.{ℕ, ◌+◌, ◌-◌, min, Bool, ◌&&◌, ◌||◌, List, leb, eqb, length, take}
use Rattle.ec20.specs.Basics.{pick}
use Rattle.ec20.specs.File.{byte_at}
use Rattle.modbus.specs.Frame.{is_short, is_long, station_of, function_of, byte_count_of, crc_fits}

-- functions that read, of any table, and that write
unfoldable pub is_read : ℕ → Bool
is_read n = eqb n 1 || eqb n 2 || eqb n 3 || eqb n 4

unfoldable pub is_write : ℕ → Bool
is_write n = eqb n 5 || eqb n 6 || eqb n 15 || eqb n 16

-- the length that a request has by its function n and its byte count c; 0 where these do not tell
unfoldable pub told_length : ℕ → ℕ → ℕ
told_length n c = pick (is_long n) (9 + c) (pick (is_read n || is_short n) 8 0)

-- The length that a reply has by its function n and its third byte c: of a read a byte count and the bytes, of a write what was asked, of an exception
-- its number; 0 where these do not tell.
unfoldable pub reply_length : ℕ → ℕ → ℕ
reply_length n c = pick (is_read n) (5 + c) (pick (is_write n) 8 (pick (leb 128 n) 5 0))

-- as a reply, which is another station's; 0 where the station is the own
unfoldable pub others_length : ℕ → List ℕ → ℕ
others_length own b = pick (eqb (station_of b) own) 0 (reply_length (function_of b) (byte_at b 2))

-- the first n bytes are there, and their CRC is good
unfoldable pub is_whole : ℕ → List ℕ → Bool
is_whole n b = leb 2 n && leb n (length b) && crc_fits (take n b)

-- A frame ends with its length, as a request or as another station's reply, where its CRC is good; else with a silence, and is then all that is held.
-- 0: it has not ended.
unfoldable pub frame_of : ℕ → Bool → List ℕ → ℕ
frame_of own silence b =
    let n = told_length (function_of b) (byte_count_of b) in
    let m = others_length own b in
    pick (is_whole n b) n (pick (is_whole m b) m (pick silence (length b) 0))

-- how many of the bytes that came have room in the buffer b after the n that are held
unfoldable pub room_for : ℕ → List ℕ → List ℕ → ℕ
room_for n came b = min (length came) (length b - n)

-- how many of the n bytes held in the buffer b are left when the first k are taken; none, where it holds no n
unfoldable pub left_of : ℕ → ℕ → List ℕ → ℕ
left_of n k b = pick (leb n (length b)) (n - k) 0
