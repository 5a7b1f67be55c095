-- DOCUMENT 02, (x), what comes of a salvage. "More than 2,000 records, an added END included, is 1, then an output too small 16; neither writes anything.
-- Write a proper file and report records kept, whether END was added, and input bytes after those."
use Rattle.std.specs.Prelude.{ℕ, ◌+◌, ◌-◌, ◌*◌, List, [], ◌++◌, leb, eqb, length, take, Err, Ok}
use Rattle.ec20.specs.Basics.{pick}
use Rattle.ec20.specs.Buffer.{sent}
use Rattle.ec20.specs.Devices.{Device, ec20}
use Rattle.ec20.specs.Written.{trailer_of, end_record}
use Rattle.torn.specs.Kept.{whole_records, kept_of}
use Rattle.torn.specs.declared.Kept.{Kept}
use Rattle.torn.specs.Salvaged.{Salvaged}
use Rattle.torn.specs.Salvaged.{Refused, Done}

-- what is kept of a torn file
unfoldable pub kept_in : Device → List ℕ → Kept
kept_in v t = kept_of v (whole_records t)

-- "records, an added END included"
abbrev pub records_in : Kept → ℕ
records_in k = k.count + k.added

-- the bytes of that many records and a trailer
abbrev pub size_for : ℕ → ℕ
size_for n = 20 * n + 8

-- "a proper file": the records that are kept, byte for byte, END if one is added, and the trailer
unfoldable pub file_with : List ℕ → Kept → List ℕ
file_with t k = take (20 * k.count) t ++ (pick (eqb k.added 0) [] end_record ++ trailer_of 1 (records_in k))

-- the file that is written of a torn one
unfoldable pub mended : Device → List ℕ → List ℕ
mended v t = file_with t (kept_in v t)

-- "input bytes after those" kept; an added END is none of the input's
abbrev pub rest_of : List ℕ → Kept → ℕ
rest_of t k = length t - 20 * k.count

-- the answer, and what the output holds after it
pub record Salvage : Type 0 where
  pub answer : Salvaged
  pub out : List ℕ

abbrev pub saved : Salvaged → List ℕ → Salvage
saved a b = record { answer = a; out = b }

-- of the torn file t into the output b, by what is kept: past the file the output stays as it was
abbrev pub salvage_by : Kept → List ℕ → List ℕ → Salvage
salvage_by k t b =
    pick (leb (records_in k) 2000)
    (pick (leb (size_for (records_in k)) (length b))
    (saved (Done k.count k.added (rest_of t k)) (sent (file_with t k) b))
    (saved (Refused 16 0) b))
    (saved (Refused 1 0) b)

unfoldable pub salvage_for : Device → List ℕ → List ℕ → Salvage
salvage_for v t b = salvage_by (kept_in v t) t b

-- the salvage of a torn EC20 file
unfoldable pub salvage_of : List ℕ → List ℕ → Salvage
salvage_of t b = salvage_for ec20 t b

-- What a host is told: the number of the refusal (0: done) and its record; the records kept, the END records added, and the bytes after those kept.
pub record ToldSalvage : Type 0 where
  pub number : ℕ
  pub at : ℕ
  pub kept : ℕ
  pub added : ℕ
  pub rest : ℕ

unfoldable pub told_by_salvage : Salvaged → ToldSalvage
told_by_salvage (Err r) = record { number = r.number; at = r.at; kept = 0; added = 0; rest = 0 }
told_by_salvage (Ok s) = record { number = 0; at = 0; kept = s.kept; added = s.added; rest = s.rest }
