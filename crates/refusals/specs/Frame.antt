-- 1: "file under 8 bytes, wrong edition, count, distance or comment length".
use Rattle.std.specs.Prelude.{ℕ, ◌+◌, ◌*◌, ◌<◌, List, ◌≡◌, length}
use Rattle.ec20.specs.File.{edition_of, count_of, distance_of, first_of}

pub data Line1 (f : List ℕ) : Type 0 where
  -- "file under 8 bytes"
  under_8 : length f < 8 → Line1 f
  -- "edition (u16, 1)"
  edition : (edition_of f ≡ 1 → ⊥) → Line1 f
  -- "record count (u16, 1 to 2,000)"
  no_records : count_of f < 1 → Line1 f
  many_records : 2000 < count_of f → Line1 f
  -- "distance from the end of the file to the first record (u32, equal to 20 x count + 8)", and no longer than the file
  distance : (distance_of f ≡ 20 * count_of f + 8 → ⊥) → Line1 f
  past_start : length f < distance_of f → Line1 f
  -- "Up to 4,096 leading comment bytes": what stands before the first record
  comment : 4096 < first_of f → Line1 f
