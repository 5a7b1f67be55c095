-- What is told of a salvage, and what the output then holds, line by line: "each is given exactly when its line holds and nothing ahead of it in this order
-- does".
use Rattle.std.specs.Prelude.{ℕ, ◌≤◌, ◌<◌, List, length}
use Rattle.ec20.specs.Buffer.{sent}
use Rattle.ec20.specs.Devices.{Device}
use Rattle.torn.specs.Salvage.{kept_in, records_in, size_for, mended, rest_of, Salvage, saved}
use Rattle.torn.specs.Salvaged.{Refused, Done}

-- of the torn file t and the output b
pub data Told (v : Device) (t b : List ℕ) : Salvage → Type 0 where
  -- "More than 2,000 records, an added END included, is 1"
  told_1 : 2000 < records_in (kept_in v t) → Told v t b (saved (Refused 1 0) b)
  -- "then an output too small 16; neither writes anything"
  told_16 : records_in (kept_in v t) ≤ 2000 → length b < size_for (records_in (kept_in v t)) → Told v t b (saved (Refused 16 0) b)
  -- "Write a proper file and report records kept, whether END was added, and input bytes after those."
  told_done : records_in (kept_in v t) ≤ 2000 → size_for (records_in (kept_in v t)) ≤ length b
      → Told v t b (saved (Done (kept_in v t).count (kept_in v t).added (rest_of t (kept_in v t))) (sent (mended v t) b))
