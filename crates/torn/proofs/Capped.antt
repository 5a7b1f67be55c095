-- More than 2,000 records are refused whatever follows, so that 2,001 are enough to look at. Assumes nothing.
use Prim.Native.Nat.{ℕ, ◌+◌, ◌*◌, ◌/◌, ◌≤◌, ◌<◌, min}
use mathlib.Core.List.{List}
use mathlib.Core.Path.{◌≡◌, refl, sym, ap, ◌∙◌}
use native.Mathlib.Decide.{dec_lt}
use native.Mathlib.Omega.{arith}
use lib.ListN.{length}
use borrow.Author.Tests.{lt-leb}
use Rattle.ec20.specs.Devices.{Device}
use Rattle.ec20.specs.File.{record_from, records_as}
use Rattle.torn.proofs.Stops.{Same, same, goes_on, looked-at, kept-least}
use Rattle.torn.specs.Kept.{kept_of}
use Rattle.torn.specs.Salvage.{records_in, saved, salvage_by, kept_in, salvage_for}
use Rattle.torn.specs.declared.Kept.{Kept}
use Rattle.torn.specs.Salvaged.{Refused}

-- 1
pub too_many : (k : Kept) (t b : List ℕ) → 2000 < records_in k → salvage_by k t b ≡ saved (Refused 1 0) b
too_many k t b h = rw (lt-leb (records_in k) 2000 h) refl

module _ (v : Device) (t b : List ℕ) where
  -- of the first c records, all there are or 2,001 at least
  pub enough : (c n : ℕ) → c ≤ n → (c < n → 2001 ≤ c) → salvage_by (kept_of v (records_as 1 t 0 c)) t b ≡ salvage_by (kept_of v (records_as 1 t 0 n)) t b
  enough c n m h = go (looked-at v 1 (λ k. record_from t (0 + 20 * k)) c n m)
    where
      go : Same v 1 (λ k. record_from t (0 + 20 * k)) c n → salvage_by (kept_of v (records_as 1 t 0 c)) t b ≡ salvage_by (kept_of v (records_as 1 t 0 n)) t b
      go (same e) = ap (λ (k : Kept). salvage_by k t b) e
      go (goes_on o) =
          elim (dec_lt c n) [
            | yes a ↦
                let l = h a in
                let x = kept-least v 1 (λ k. record_from t (0 + 20 * k)) c c (omega arith) o in
                let y = kept-least v 1 (λ k. record_from t (0 + 20 * k)) c n m o in
                too_many (kept_of v (records_as 1 t 0 c)) t b (omega (arith, x)) ∙ sym (too_many (kept_of v (records_as 1 t 0 n)) t b (omega (arith, y)))
            | no a ↦ ap (λ (i : ℕ). salvage_by (kept_of v (records_as 1 t 0 i)) t b) (omega arith)
          ]

  -- of a file: as many as it has whole, or 2,001
  pub looked-enough : (c : ℕ) → c ≡ min (length t / 20) 2001 → salvage_by (kept_of v (records_as 1 t 0 c)) t b ≡ salvage_for v t b
  unfolding salvage_for kept_in
  looked-enough c e = enough c (length t / 20) (omega arith) (λ l. omega arith)
