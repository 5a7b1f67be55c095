-- A record is its twenty bytes: it stays where a file is cut behind it or goes on, and so does what is kept. Assumes nothing.
use Prim.Native.Nat.{ℕ, ◌+◌, ◌*◌, ◌≤◌, ◌<◌}
use mathlib.Core.Bool.{true}
use mathlib.Core.List.{List, ◌++◌}
use mathlib.Core.Path.{◌≡◌, refl, sym, ap, ◌∙◌}
use native.Mathlib.Omega.{arith}
use lib.ListN.{length, take, get_or-append}
use lib.Seq.{get_or-take}
use Rattle.ec20.proofs.Computing.{computing}
use Rattle.ec20.proofs.Written.{byte-behind}
use Rattle.ec20.specs.Devices.{Device}
use Rattle.ec20.specs.File.{byte_at, u32_at, operand_at, record_from}
use Rattle.ec20.specs.Written.{end_record}
use Rattle.ec20.specs.declared.Rec.{Rec}
use Rattle.torn.proofs.Stops.{these, Open, Stop, bad, end, on, stop, stops-bad, stops_end, stops-all}
use Rattle.torn.specs.Kept.{passes, is_end, kept_of}

-- ---- the same bytes

-- the n bytes of s from i on are those of t from j on
abbrev Same : ℕ → List ℕ → ℕ → List ℕ → ℕ → Type 0
Same n s i t j = (b : ℕ) → b < n → byte_at s (i + b) ≡ byte_at t (j + b)

module _ (s t : List ℕ) where
  -- so are m of them from the a-th on
  part : (n i j a m : ℕ) → a + m ≤ n → Same n s i t j → Same m s (i + a) t (j + a)
  part n i j a m l h b k =
      ap (byte_at s) {x = i + a + b} {y = i + (a + b)} (omega arith)
      ∙ h (a + b) (omega arith)
      ∙ ap (byte_at t) {x = j + (a + b)} {y = j + a + b} (omega arith)

  -- and the first of them
  one : (n i j : ℕ) → 0 < n → Same n s i t j → byte_at s i ≡ byte_at t j
  one n i j l h = ap (byte_at s) {x = i} {y = i + 0} (omega arith) ∙ h 0 l ∙ ap (byte_at t) {x = j + 0} {y = j} (omega arith)

  -- four bytes are a number
  same_number : (i j : ℕ) → Same 4 s i t j → u32_at s i ≡ u32_at t j
  unfolding u32_at
  same_number i j h = rw (one 4 i j (omega arith) h, h 1 (omega arith), h 2 (omega arith), h 3 (omega arith)) refl

  -- six are an operand
  same_operand : (i j : ℕ) → Same 6 s i t j → operand_at s i ≡ operand_at t j
  unfolding operand_at
  same_operand i j h =
      rw (one 6 i j (omega arith) h, h 1 (omega arith), same_number (i + 2) (j + 2) (part 6 i j 2 4 (omega arith) h)) refl

  -- twenty are a record
  pub same_record : (i j : ℕ) → Same 20 s i t j → record_from s i ≡ record_from t j
  unfolding record_from
  same_record i j h =
      rw (
        one 20 i j (omega arith) h,
        h 1 (omega arith),
        same_operand (i + 2) (j + 2) (part 20 i j 2 6 (omega arith) h),
        same_operand (i + 8) (j + 8) (part 20 i j 8 6 (omega arith) h),
        same_operand (i + 14) (j + 14) (part 20 i j 14 6 (omega arith) h),
      ) refl

-- ---- a part of a file

-- the first m bytes have the records that end there or earlier
pub record-take : (t : List ℕ) (m i : ℕ) → i + 20 ≤ m → record_from (take m t) i ≡ record_from t i
record-take t m i l = same_record (take m t) t i i (λ b k. get_or-take m t (i + b) 0 (omega arith))

-- what stands behind plays no part
pub record-append : (x y : List ℕ) (i : ℕ) → i + 20 ≤ length x → record_from (x ++ y) i ≡ record_from x i
record-append x y i l = same_record (x ++ y) x i i (λ b k. get_or-append x y 0 (i + b) (omega arith))

-- nor does what stands ahead of a record
pub record-behind : (x y : List ℕ) → record_from (x ++ y) (length x) ≡ record_from y 0
record-behind x y =
    same_record (x ++ y) y (length x) 0 (λ b k. byte-behind x y b ∙ ap (byte_at y) {x = b} {y = 0 + b} (omega arith))

-- ---- END

-- the END record passes 2 and 3
pub end-passes : (v : Device) → passes v (record_from end_record 0) ≡ true
unfolding computing passes
end-passes v = refl

-- and is END
pub end_is : is_end (record_from end_record 0) ≡ true
unfolding computing
end_is = refl

-- ---- what is kept, by the records

-- the records of a file, from its first byte on
abbrev pub from : List ℕ → ℕ → Rec
from t k = record_from t (0 + 20 * k)

-- record k begins at byte 20 k
pub from_is : (t : List ℕ) (k : ℕ) → from t k ≡ record_from t (20 * k)
from_is t k = ap (record_from t) {x = 0 + 20 * k} {y = 20 * k} (omega arith)

module _ (v : Device) (at also : ℕ → Rec) where
  -- a run goes on over the same records
  pub open-same : (n : ℕ) → ((k : ℕ) → k < n → also k ≡ at k) → Open v 1 at n → Open v 1 also n
  open-same n h o =
      record {
        pass = λ j l. ap (passes v) (h j l) ∙ o.pass j l;
        no_end = λ j l. ap is_end (h j l) ∙ o.no_end j l;
      }

  -- and as many of them are kept
  pub kept_same : (n : ℕ) → ((k : ℕ) → k < n → also k ≡ at k) → kept_of v (these 1 also n) ≡ kept_of v (these 1 at n)
  kept_same n h = go (stop v 1 at n)
    where
      go : Stop v 1 at n → kept_of v (these 1 also n) ≡ kept_of v (these 1 at n)
      go (bad k l o f) =
          stops-bad v 1 also n k (open-same k (λ j m. h j (omega arith)) o) l (ap (passes v) (h k l) ∙ f) ∙ sym (stops-bad v 1 at n k o l f)
      go (end k l o p q) =
          stops_end v 1 also n k (open-same k (λ j m. h j (omega arith)) o) l (ap (passes v) (h k l) ∙ p) (ap is_end (h k l) ∙ q)
          ∙ sym (stops_end v 1 at n k o l p q)
      go (on o) = stops-all v 1 also n (open-same n h o) ∙ sym (stops-all v 1 at n o)
