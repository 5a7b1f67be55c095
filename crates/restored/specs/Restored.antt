-- DOCUMENT 02, (x). "Salvaging an accepted edition 1 file without comments changes no byte."
use Rattle.std.specs.Prelude.{ℕ, ◌+◌, ◌-◌, ◌*◌, ◌/◌, ◌%◌, ◌≤◌, ◌<◌, List, ◌++◌, ◌≡◌, length, take}
use Rattle.ec20.specs.Buffer.{sent}
use Rattle.ec20.specs.Check.{check_for}
use Rattle.ec20.specs.Devices.{Device}
use Rattle.ec20.specs.File.{byte_at, first_of, record_from}
use Rattle.ec20.specs.Written.{trailer_of, end_record}
use Rattle.ec20.specs.Verdict.{Accepted}
use Rattle.torn.specs.Salvage.{mended, saved, salvage_for}
use Rattle.torn.specs.Salvaged.{Done}

-- "an accepted edition 1 file without comments", of n records: a file of bytes. The check accepts no other edition.
pub record Sound (v : Device) (f : List ℕ) (n : ℕ) : Type 0 where
  pub bytes : (i : ℕ) → byte_at f i < 256
  pub steps : ℕ
  pub accepted : check_for v f ≡ Accepted n steps
  pub bare : first_of f ≡ 0

-- the file t begins with the n records of the file f; what follows them is anything: "the trailer torn off or scrambled"
pub record Begins (n : ℕ) (f t : List ℕ) : Type 0 where
  pub long : 20 * n ≤ length t
  pub same : take (20 * n) t ≡ take (20 * n) f

-- Of an accepted file f without comment.
pub record Restored (v : Device) (f : List ℕ) (n : ℕ) : Type 0 where
  -- "changes no byte", with nothing after but its trailer
  pub unchanged : (b : List ℕ) → length f ≤ length b → salvage_for v f b ≡ saved (Done n 0 8) (sent f b)
  -- whatever became of its trailer, it comes back byte for byte
  pub restored : (t b : List ℕ) → Begins n f t → length f ≤ length b → salvage_for v t b ≡ saved (Done n 0 (length t - 20 * n)) (sent f b)
  -- cut after m bytes, in its records: the records that are whole, END, and their trailer; the bytes of a record that is not whole are the rest
  pub cut : (m : ℕ) (b : List ℕ) → m < 20 * n → 20 * (m / 20 + 1) + 8 ≤ length b
      → salvage_for v (take m f) b ≡ saved (Done (m / 20) 1 (m % 20)) (sent (take (20 * (m / 20)) f ++ (end_record ++ trailer_of 1 (m / 20 + 1))) b)
  -- so each of them is a record of the file
  pub prefix : (m k : ℕ) → m < 20 * n → k < m / 20 → record_from (mended v (take m f)) (20 * k) ≡ record_from f (20 * k)
