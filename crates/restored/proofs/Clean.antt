-- Records that make a proper file, or all of one but its END, and what their salvage gives whatever follows them. Assumes nothing.
use Prim.Native.Nat.{ℕ, suc, ◌+◌, ◌-◌, ◌*◌, ◌/◌, ◌≤◌, ◌<◌}
use mathlib.Core.Bool.{true, false}
use mathlib.Core.List.{List, ◌++◌}
use mathlib.Core.Path.{◌≡◌, refl, ap, ap₂, ◌∙◌}
use native.Mathlib.Omega.{arith}
use lib.ListN.{length, length-append}
use lib.Seq.{take_at}
use borrow.Author.Tests.{le-leb}
use Rattle.ec20.specs.Buffer.{sent}
use Rattle.ec20.specs.Devices.{Device}
use Rattle.ec20.specs.File.{record_from}
use Rattle.ec20.specs.Written.{trailer_of, end_record}
use Rattle.restored.proofs.Records.{from, from_is, record-append, open-same}
use Rattle.torn.proofs.Stops.{Open, stops_end, stops-all}
use Rattle.torn.specs.Kept.{passes, is_end, kept}
use Rattle.torn.specs.Salvage.{kept_in, records_in, size_for, file_with, rest_of, saved, salvage_by, salvage_for}
use Rattle.torn.specs.declared.Kept.{Kept}
use Rattle.torn.specs.Salvaged.{Done}

-- a salvage that is refused by neither 1 nor 16
pub salvage-done : (k : Kept) (t b s : List ℕ) (r : ℕ) → records_in k ≤ 2000 → size_for (records_in k) ≤ length b → file_with t k ≡ s → rest_of t k ≡ r
    → salvage_by k t b ≡ saved (Done k.count k.added r) (sent s b)
salvage-done k t b s r few room e d = rw (le-leb _ _ few, le-leb _ _ room, e, d) refl

-- ---- records with an END at their end

-- the bytes x are n records that pass; the last is END, and no other
pub record Clean (v : Device) (x : List ℕ) (n : ℕ) : Type 0 where
  pub size : length x ≡ 20 * n
  pub some : 1 ≤ n
  pub most : n ≤ 2000
  pub pass : (k : ℕ) → k < n → passes v (record_from x (20 * k)) ≡ true
  pub inner : (k : ℕ) → k + 1 < n → is_end (record_from x (20 * k)) ≡ false
  pub last : (k : ℕ) → k + 1 ≡ n → is_end (record_from x (20 * k)) ≡ true

module _ (v : Device) (x : List ℕ) (n : ℕ) (c : Clean v x n) (y : List ℕ) where
  -- the records of a file that begins with them
  clean_at : (k : ℕ) → k < n → from (x ++ y) k ≡ record_from x (20 * k)
  clean_at k l = from_is (x ++ y) k ∙ record-append x y (20 * k) (omega (arith, c.size))

  -- all of them are kept
  pub clean-kept : kept_in v (x ++ y) ≡ kept n 0
  unfolding kept_in
  clean-kept =
      let some : 1 ≤ n = c.some in
      let size : length x ≡ 20 * n = c.size in
      let all : length (x ++ y) ≡ length x + length y = length-append x y in
      let is : from (x ++ y) (n - 1) ≡ record_from x (20 * (n - 1)) = clean_at (n - 1) (omega arith) in
      let o : Open v 1 (from (x ++ y)) (n - 1) =
      record {
        pass = λ j l. ap (passes v) (clean_at j (omega arith)) ∙ c.pass j (omega arith);
        no_end = λ j l. ap is_end (clean_at j (omega arith)) ∙ c.inner j (omega arith);
      } in
      let p : passes v (from (x ++ y) (n - 1)) ≡ true = ap (passes v) is ∙ c.pass (n - 1) (omega arith) in
      let q : is_end (from (x ++ y) (n - 1)) ≡ true = ap is_end is ∙ c.last (n - 1) (omega arith) in
      stops_end v 1 (from (x ++ y)) (length (x ++ y) / 20) (n - 1) o (omega arith) p q
      ∙ ap (λ (m : ℕ). kept m 0) {x = suc (n - 1)} {y = n} (omega arith)

  -- they come back with their trailer
  pub clean-file : file_with (x ++ y) (kept n 0) ≡ x ++ trailer_of 1 n
  unfolding file_with
  clean-file = ap₂ (λ (a : List ℕ) (m : ℕ). a ++ trailer_of 1 m) (take_at x y (20 * n) c.size) (let z : n + 0 ≡ n = omega arith in z)

  -- and what followed them is the rest
  pub clean-salvage : (b : List ℕ) → 20 * n + 8 ≤ length b → salvage_for v (x ++ y) b ≡ saved (Done n 0 (length y)) (sent (x ++ trailer_of 1 n) b)
  unfolding salvage_for
  clean-salvage b room =
      let size : length x ≡ 20 * n = c.size in
      let most : n ≤ 2000 = c.most in
      let all : length (x ++ y) ≡ length x + length y = length-append x y in
      ap (λ (k : Kept). salvage_by k (x ++ y) b) clean-kept
      ∙ salvage-done (kept n 0) (x ++ y) b (x ++ trailer_of 1 n) (length y) (omega arith) (omega arith) clean-file (omega arith)

-- ---- records with no END

-- the bytes x are n records that pass, none of them END, and less than a record follows
module _ (v : Device) (x : List ℕ) (n : ℕ) (size : length x ≡ 20 * n) (o : Open v 1 (from x) n) (y : List ℕ) (less : length y < 20) where
  -- all of them are kept, and END is added
  pub open_kept : kept_in v (x ++ y) ≡ kept n 1
  unfolding kept_in
  open_kept =
      let all : length (x ++ y) ≡ length x + length y = length-append x y in
      let is : (k : ℕ) → k < n → from (x ++ y) k ≡ from x k = λ k l. record-append x y (0 + 20 * k) (omega arith) in
      let q : Open v 1 (from (x ++ y)) n = open-same v (from x) (from (x ++ y)) n is o in
      let whole : length (x ++ y) / 20 ≡ n = omega arith in
      rw whole (stops-all v 1 (from (x ++ y)) n q)

  -- they come back with END and their trailer
  pub open-file : file_with (x ++ y) (kept n 1) ≡ x ++ (end_record ++ trailer_of 1 (n + 1))
  unfolding file_with
  open-file = ap (λ (a : List ℕ). a ++ (end_record ++ trailer_of 1 (n + 1))) (take_at x y (20 * n) size)

  -- and the part of a record is the rest
  pub open-salvage : (b : List ℕ) → n < 2000 → 20 * (n + 1) + 8 ≤ length b
      → salvage_for v (x ++ y) b ≡ saved (Done n 1 (length y)) (sent (x ++ (end_record ++ trailer_of 1 (n + 1))) b)
  unfolding salvage_for
  open-salvage b few room =
      let all : length (x ++ y) ≡ length x + length y = length-append x y in
      ap (λ (k : Kept). salvage_by k (x ++ y) b) open_kept
      ∙ salvage-done (kept n 1) (x ++ y) b (x ++ (end_record ++ trailer_of 1 (n + 1))) (length y) (omega arith) room open-file (omega arith)
