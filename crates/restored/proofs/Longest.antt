-- What is kept of a torn file is the longest such run, and END is added where it has none. Assumes nothing.
use Prim.Native.Nat.{ℕ, suc, ◌+◌, ◌*◌, ◌/◌, ◌≤◌, ◌<◌}
use mathlib.Core.Bool.{true, false}
use mathlib.Core.List.{List}
use mathlib.Core.Logic.{◌⊎◌, inl, inr}
use mathlib.Core.Path.{◌≡◌, refl, sym, ap, ◌∙◌}
use native.Mathlib.Decide.{dec_lt}
use native.Mathlib.Omega.{arith}
use lib.ListN.{length}
use Rattle.ec20.proofs.Tests.{differ}
use Rattle.ec20.specs.Devices.{Device}
use Rattle.ec20.specs.File.{record_from}
use Rattle.restored.proofs.Records.{from, from_is}
use Rattle.restored.specs.Longest.{Run, Longest}
use Rattle.torn.proofs.Stops.{Open, Stop, bad, end, on, stop, stops-bad, stops_end, stops-all}
use Rattle.torn.specs.Kept.{passes, is_end, kept}
use Rattle.torn.specs.Salvage.{kept_in}

module _ (v : Device) (t : List ℕ) where
  -- each of n records of an open run passes
  passing : (n : ℕ) → Open v 1 (from t) n → (k : ℕ) → k < n → passes v (record_from t (20 * k)) ≡ true
  passing n o k l = ap (passes v) (sym (from_is t k)) ∙ o.pass k l

  -- and none of them is END
  endless : (n : ℕ) → Open v 1 (from t) n → (k : ℕ) → k < n → is_end (record_from t (20 * k)) ≡ false
  endless n o k l = ap is_end (sym (from_is t k)) ∙ o.no_end k l

  -- an open run is a run
  open-run : (n : ℕ) → 20 * n ≤ length t → Open v 1 (from t) n → Run v t n
  open-run n l o = record { whole = l; pass = passing n o; stop = λ k m. endless n o k (omega arith) }

  -- what is kept, by how many that are
  longest-by : (c a : ℕ) → kept_in v t ≡ kept c a → Run v t c → ((n : ℕ) → Run v t n → n ≤ c) → (a ≡ 1) ⊎ (a ≡ 0)
      → (a ≡ 1 → (k : ℕ) → k < c → is_end (record_from t (20 * k)) ≡ false)
      → (a ≡ 0 → (k : ℕ) × (c ≡ k + 1) × (is_end (record_from t (20 * k)) ≡ true))
      → Longest v t
  longest-by c a e r l x y z =
      record { run = rw e r; longest = λ n h. rw e (l n h); added = rw e x; no_end = rw e y; an_end = rw e z }

  -- the run stops at a record that does not pass, at END, or where no whole record is left
  longest-at : Stop v 1 (from t) (length t / 20) → Longest v t
  unfolding kept_in
  longest-at (bad k l o f) =
      longest-by k 1 (stops-bad v 1 (from t) (length t / 20) k o l f) (open-run k (omega arith) o)
      (λ n r. elim (dec_lt k n) [ yes m ↦ differ (sym (r.pass k m) ∙ ap (passes v) (sym (from_is t k)) ∙ f) | no m ↦ omega arith ])
      (inl refl) (λ _. endless k o) (λ z. absurd (omega arith))
  longest-at (end k l o p q) =
      longest-by (suc k) 0 (stops_end v 1 (from t) (length t / 20) k o l p q)
      (record {
        whole = omega arith;
        pass = λ j m. elim (dec_lt j k) [
          | yes a ↦ passing k o j a
          | no a ↦ ap (λ (i : ℕ). passes v (record_from t (20 * i))) {x = j} {y = k} (omega arith) ∙ ap (passes v) (sym (from_is t k)) ∙ p
        ];
        stop = λ j m. endless k o j (omega arith);
      })
      (λ n r. elim (dec_lt (suc k) n) [ yes m ↦ differ (sym q ∙ ap is_end (from_is t k) ∙ r.stop k (omega arith)) | no m ↦ omega arith ])
      (inr refl) (λ z. absurd (omega arith)) (λ _. (k, omega arith, ap is_end (sym (from_is t k)) ∙ q))
  longest-at (on o) =
      longest-by (length t / 20) 1 (stops-all v 1 (from t) (length t / 20) o) (open-run (length t / 20) (omega arith) o)
      (λ n r. let w = r.whole in omega arith) (inl refl) (λ _. endless (length t / 20) o) (λ z. absurd (omega arith))

-- of every file
pub longest : (v : Device) (t : List ℕ) → Longest v t
longest v t = longest-at v t (stop v 1 (from t) (length t / 20))
