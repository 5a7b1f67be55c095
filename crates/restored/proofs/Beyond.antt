-- What stands behind the first 2,001 records of a file is part of the rest and nothing else. Assumes nothing.
use Prim.Native.Nat.{ℕ, ◌+◌, ◌*◌, ◌/◌, ◌≤◌}
use mathlib.Core.Bool.{Bool, true, false}
use mathlib.Core.List.{List, ◌++◌}
use mathlib.Core.Path.{◌≡◌, refl, sym, ap, ◌∙◌}
use native.Mathlib.Omega.{arith}
use lib.Dec.{leb}
use lib.ListN.{length, length-append}
use lib.Seq.{take-append-le}
use Rattle.ec20.specs.Basics.{pick}
use Rattle.ec20.specs.Buffer.{sent}
use Rattle.ec20.specs.Devices.{Device}
use Rattle.ec20.specs.File.{records_as}
use Rattle.restored.proofs.Records.{from, record-append, kept_same}
use Rattle.restored.specs.Beyond.{with_more, Beyond}
use Rattle.torn.proofs.Capped.{enough}
use Rattle.torn.proofs.Stops.{kept-most}
use Rattle.torn.specs.Kept.{kept_of}
use Rattle.torn.specs.Salvage.{records_in, size_for, file_with, rest_of, Salvage, saved, salvage_by, kept_in, salvage_for}
use Rattle.torn.specs.declared.Kept.{Kept}
use Rattle.torn.specs.Salvaged.{Refused, Done}

-- so many bytes more in the rest, whatever is answered
abbrev more : ℕ → Salvage → Salvage
more n s = saved (with_more n s.answer) s.out

-- by the two tests of a salvage: as many records as may be, and an output that is large enough
by_tests : (x y : Bool) (c a r q n : ℕ) (f g b : List ℕ) → q ≡ r + n → g ≡ f
    → pick x (pick y (saved (Done c a q) (sent g b)) (saved (Refused 16 0) b)) (saved (Refused 1 0) b)
    ≡ more n (pick x (pick y (saved (Done c a r) (sent f b)) (saved (Refused 16 0) b)) (saved (Refused 1 0) b))
by_tests true true c a r q n f g b e d = rw (e, d) refl
by_tests true false c a r q n f g b e d = refl
by_tests false y c a r q n f g b e d = refl

module _ (t u b : List ℕ) where
  -- a file that goes on behind what is kept
  longer : (k : Kept) → 20 * k.count ≤ length t → salvage_by k (t ++ u) b ≡ more (length u) (salvage_by k t b)
  unfolding file_with
  longer k l =
      let rest : rest_of (t ++ u) k ≡ rest_of t k + length u = omega (arith, length-append t u) in
      let file : file_with (t ++ u) k ≡ file_with t k = rw (take-append-le (20 * k.count) t u l) refl in
      by_tests (leb (records_in k) 2000) (leb (size_for (records_in k)) (length b)) k.count k.added
      (rest_of t k) (rest_of (t ++ u) k) (length u) (file_with t k) (file_with (t ++ u) k) b rest file

-- of every file of 2,001 records or more
pub beyond : (v : Device) → Beyond v
unfolding salvage_for kept_in
beyond v t u b long =
    let all : length (t ++ u) ≡ length t + length u = length-append t u in
    let here : salvage_by (kept_of v (records_as 1 t 0 2001)) t b ≡ salvage_for v t b = enough v t b 2001 (length t / 20) (omega arith) (λ l. omega arith) in
    let there : salvage_by (kept_of v (records_as 1 (t ++ u) 0 2001)) (t ++ u) b ≡ salvage_for v (t ++ u) b =
    enough v (t ++ u) b 2001 (length (t ++ u) / 20) (omega arith) (λ l. omega arith) in
    let same : kept_of v (records_as 1 (t ++ u) 0 2001) ≡ kept_of v (records_as 1 t 0 2001) =
    kept_same v (from t) (from (t ++ u)) 2001 (λ k l. record-append t u (0 + 20 * k) (omega arith)) in
    let most = (kept-most v 1 (from t) 2001).0 in
    sym there
    ∙ ap (λ (k : Kept). salvage_by k (t ++ u) b) same
    ∙ longer t u b (kept_of v (records_as 1 t 0 2001)) (omega (arith, most))
    ∙ ap (more (length u)) here
