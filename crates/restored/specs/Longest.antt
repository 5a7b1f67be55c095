-- DOCUMENT 02, (x). "Keep the longest run of whole records from the start that pass refusals 2 and 3, stopping after the first END; if there is none, add
-- one."
use Rattle.std.specs.Prelude.{ℕ, ◌+◌, ◌*◌, ◌≤◌, ◌<◌, true, false, List, ◌⊎◌, ◌≡◌, length}
use Rattle.ec20.specs.Devices.{Device}
use Rattle.ec20.specs.File.{record_from}
use Rattle.torn.specs.Kept.{passes, is_end}
use Rattle.torn.specs.Salvage.{kept_in}

-- n records are such a run of the file t
pub record Run (v : Device) (t : List ℕ) (n : ℕ) : Type 0 where
  -- "whole records from the start"
  pub whole : 20 * n ≤ length t
  -- "that pass refusals 2 and 3"
  pub pass : (k : ℕ) → k < n → passes v (record_from t (20 * k)) ≡ true
  -- "stopping after the first END": none ahead of the last is END
  pub stop : (k : ℕ) → k + 1 < n → is_end (record_from t (20 * k)) ≡ false

-- what is kept of the file t
pub record Longest (v : Device) (t : List ℕ) : Type 0 where
  -- it is such a run
  pub run : Run v t (kept_in v t).count
  -- and "the longest"
  pub longest : (n : ℕ) → Run v t n → n ≤ (kept_in v t).count
  -- "if there is none, add one": one END is added, or none
  pub added : ((kept_in v t).added ≡ 1) ⊎ ((kept_in v t).added ≡ 0)
  -- one where no record that is kept is END
  pub no_end : (kept_in v t).added ≡ 1 → (k : ℕ) → k < (kept_in v t).count → is_end (record_from t (20 * k)) ≡ false
  -- none where the last that is kept is
  pub an_end : (kept_in v t).added ≡ 0 → (k : ℕ) × ((kept_in v t).count ≡ k + 1) × (is_end (record_from t (20 * k)) ≡ true)
