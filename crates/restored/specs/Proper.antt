-- DOCUMENT 02, (x). "Write a proper file and report records kept, whether END was added, and input bytes after those. The result then goes through the
-- normal check, which may still refuse it."
use Rattle.std.specs.Prelude.{ℕ, ◌+◌, ◌*◌, ◌≤◌, ◌<◌, true, false, List, ◌≡◌, length}
use Rattle.ec20.specs.Check.{check_for}
use Rattle.ec20.specs.Devices.{Device}
use Rattle.ec20.specs.File.{record_from, framed, first_of, count_of}
use Rattle.ec20.specs.Verdict.{Refused as Unfit}
use Rattle.torn.specs.Kept.{passes, is_end}
use Rattle.torn.specs.Salvage.{kept_in, records_in, mended, saved, salvage_for}
use Rattle.torn.specs.Salvaged.{Done}
use Rattle.ec20.specs.Buffer.{sent}

-- The file s has n records and no comment, END as its last and nowhere else; none is refused by 2 or 3, and the file not by 1.
pub record Whole (v : Device) (s : List ℕ) (n : ℕ) : Type 0 where
  pub frame : framed s ≡ true
  pub count : count_of s ≡ n
  pub bare : first_of s ≡ 0
  pub pass : (k : ℕ) → k < n → passes v (record_from s (20 * k)) ≡ true
  pub inner : (k : ℕ) → k + 1 < n → is_end (record_from s (20 * k)) ≡ false
  pub last : (k : ℕ) → k + 1 ≡ n → is_end (record_from s (20 * k)) ≡ true
  -- so the check refuses it, if it does, by another number
  pub check : (m k : ℕ) → check_for v s ≡ Unfit m k → 4 ≤ m

-- What is written of the torn file t, where it is not refused: a proper file, which salvaged again comes out as it is, into any output that it fits.
pub record Proper (v : Device) (t : List ℕ) : Type 0 where
  pub whole : Whole v (mended v t) (records_in (kept_in v t))
  pub again : (b : List ℕ) → length (mended v t) ≤ length b
      → salvage_for v (mended v t) b ≡ saved (Done (records_in (kept_in v t)) 0 8) (sent (mended v t) b)
