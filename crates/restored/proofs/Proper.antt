-- The file that is written of a torn one is proper, and comes out of a second salvage as it is. Assumes nothing.
use Prim.Native.Nat.{ℕ, ◌+◌, ◌*◌, ◌≤◌, ◌<◌}
use mathlib.Core.Bool.{true}
use mathlib.Core.List.{List, ◌++◌}
use mathlib.Core.Logic.{inl, inr}
use mathlib.Core.Path.{◌≡◌, refl, sym, ap, ◌∙◌}
use native.Mathlib.Decide.{dec_lt, ℕ_discrete}
use native.Mathlib.Omega.{arith}
use lib.ListN.{length, take, length-append}
use lib.Seq.{length-take-le}
use Rattle.ec20.proofs.BufferLaws.{append_assoc}
use Rattle.ec20.proofs.Tests.{both}
use Rattle.ec20.proofs.Written.{end-length, trailer-length, trailer-count, written-length, written-first, written-framed}
use Rattle.ec20.specs.Check.{check_for}
use Rattle.ec20.specs.Devices.{Device}
use Rattle.ec20.specs.File.{record_from, first_of, count_of}
use Rattle.ec20.specs.Operands.{is_known, operands_ok}
use Rattle.ec20.specs.Table.{row_of}
use Rattle.ec20.specs.Written.{trailer_of, end_record}
use Rattle.ec20.specs.declared.Rec.{Rec}
use Rattle.ec20.specs.Verdict.{Refused as Unfit}
use Rattle.refusals.proofs.Frame.{frame_right}
use Rattle.refusals.proofs.Operands.{not-line-3}
use Rattle.refusals.proofs.Records.{not-line-2}
use Rattle.refusals.proofs.Refused.{refused-1, refused-2, refused-3, one_to_eight}
use Rattle.refusals.specs.Records.{Line2, Line3}
use Rattle.refusals.specs.Table.{record_at}
use Rattle.restored.proofs.Clean.{Clean, clean-salvage}
use Rattle.restored.proofs.Longest.{longest}
use Rattle.restored.proofs.Records.{record-take, record-append, record-behind, end-passes, end_is}
use Rattle.restored.specs.Proper.{Whole, Proper}
use Rattle.torn.specs.Kept.{passes, is_end}
use Rattle.torn.specs.Salvage.{kept_in, records_in, file_with, mended}

-- ---- refused by neither 2 nor 3

-- a record that passes
module _ (v : Device) (r : Rec) (ok : passes v r ≡ true) where
  -- is known, and its operands are allowed
  passed : (is_known (row_of r.number) r ≡ true) × (operands_ok v (row_of r.number) r ≡ true)
  unfolding passes
  passed = both (is_known (row_of r.number) r) (operands_ok v (row_of r.number) r) ok

  -- so 2 does not refuse it
  not-2 : Line2 r → ⊥
  not-2 = not-line-2 r passed.0

  -- nor does 3
  not-3 : Line3 v r → ⊥
  not-3 = not-line-3 v r passed.1

-- ---- records and their trailer

module _ (v : Device) (x : List ℕ) (n : ℕ) (c : Clean v x n) where
  -- the file
  abbrev s : List ℕ
  s = x ++ trailer_of 1 n

  -- its records are those of x
  at : (k : ℕ) → k < n → record_from s (20 * k) ≡ record_from x (20 * k)
  at k l = record-append x (trailer_of 1 n) (20 * k) (omega (arith, c.size))

  -- it has no comment
  bare : first_of s ≡ 0
  bare = written-first x n c.size c.some c.most

  -- and n records
  counted : count_of s ≡ n
  counted = let most : n ≤ 2000 = c.most in trailer-count x 1 n (omega arith)

  -- each of which passes
  each-passes : (k : ℕ) → k < count_of s → passes v (record_at s k) ≡ true
  each-passes k l =
      let z : first_of s + 20 * k ≡ 20 * k = omega (arith, bare) in
      let h : k < n = omega (arith, counted) in
      ap (λ (i : ℕ). passes v (record_from s i)) z ∙ ap (passes v) (at k h) ∙ c.pass k h

  -- the check does not refuse them by 1, 2 or 3
  others : (m k : ℕ) → check_for v s ≡ Unfit m k → 4 ≤ m
  others m k e =
      let some = (one_to_eight v s m k e).0 in
      let by : (i : ℕ) → m ≡ i → check_for v s ≡ Unfit i k = λ i z. e ∙ ap (λ (j : ℕ). Unfit j k) z in
      elim (ℕ_discrete m 1) [
        | yes z ↦ absurd (frame_right s (written-framed x n c.size c.some c.most) ((refused-1 v s k).0 (by 1 z)).1)
        | no z ↦ elim (ℕ_discrete m 2) [
          | yes y ↦ let h = (refused-2 v s k).0 (by 2 y) in absurd (not-2 v (record_at s k) (each-passes k h.1.inside) h.2)
          | no y ↦ elim (ℕ_discrete m 3) [
            | yes w ↦ let h = (refused-3 v s k).0 (by 3 w) in absurd (not-3 v (record_at s k) (each-passes k h.1.inside) h.3)
            | no w ↦ omega arith
          ]
        ]
      ]

  -- so they make a proper file
  pub clean-whole : Whole v s n
  clean-whole =
      record {
        frame = written-framed x n c.size c.some c.most;
        count = counted;
        bare = bare;
        pass = λ k l. ap (passes v) (at k l) ∙ c.pass k l;
        inner = λ k l. ap is_end (at k (omega arith)) ∙ c.inner k l;
        last = λ k l. ap is_end (at k (omega arith)) ∙ c.last k l;
        check = others;
      }

-- ---- a torn file

module _ (v : Device) (t : List ℕ) where
  -- records that make the file that is written
  pub record Made : Type 0 where
    pub bytes : List ℕ
    pub clean : Clean v bytes (records_in (kept_in v t))
    pub is : mended v t ≡ bytes ++ trailer_of 1 (records_in (kept_in v t))

  module _ (few : records_in (kept_in v t) ≤ 2000) where
    -- the records that are kept: so many, and their bytes
    abbrev n : ℕ
    n = (kept_in v t).count

    abbrev x : List ℕ
    x = take (20 * n) t

    -- twenty bytes each
    x-length : length x ≡ 20 * n
    x-length = length-take-le (20 * n) t (longest v t).run.whole

    -- they are the file's own
    x-at : (k : ℕ) → k < n → record_from x (20 * k) ≡ record_from t (20 * k)
    x-at k l = record-take t (20 * n) (20 * k) (omega arith)

    -- and pass
    x-passes : (k : ℕ) → k < n → passes v (record_from x (20 * k)) ≡ true
    x-passes k l = ap (passes v) (x-at k l) ∙ (longest v t).run.pass k l

    -- END is among the records that are kept
    made-without : (kept_in v t).added ≡ 0 → Made
    unfolding mended file_with
    made-without e =
        let q = (longest v t).an_end e in
        let l : n ≡ q.0 + 1 = q.1 in
        record {
          bytes = x;
          clean = record {
            size = omega (arith, x-length);
            some = omega arith;
            most = few;
            pass = λ k m. x-passes k (omega arith);
            inner = λ k m. ap is_end (x-at k (omega arith)) ∙ (longest v t).run.stop k (omega arith);
            last = λ k m. let z : k ≡ q.0 = omega arith in ap is_end (x-at k (omega arith)) ∙ ap (λ (i : ℕ). is_end (record_from t (20 * i))) z ∙ q.2;
          };
          is = rw e refl;
        }

    -- END is added to them
    made-with : (kept_in v t).added ≡ 1 → Made
    unfolding mended file_with
    made-with e =
        let inside : (k : ℕ) → k < n → record_from (x ++ end_record) (20 * k) ≡ record_from x (20 * k) =
        λ k l. record-append x end_record (20 * k) (omega (arith, x-length)) in
        let behind : (k : ℕ) → k ≡ n → record_from (x ++ end_record) (20 * k) ≡ record_from end_record 0 =
        λ k z. let w : 20 * k ≡ length x = omega (arith, x-length) in ap (record_from (x ++ end_record)) w ∙ record-behind x end_record in
        record {
          bytes = x ++ end_record;
          clean = record {
            size = omega (arith, length-append x end_record, end-length, x-length);
            some = omega arith;
            most = few;
            pass = λ k m. elim (dec_lt k n) [
              | yes l ↦ ap (passes v) (inside k l) ∙ x-passes k l
              | no l ↦ ap (passes v) (behind k (omega arith)) ∙ end-passes v
            ];
            inner = λ k m.
                let l : k < n = omega arith in
                ap is_end (inside k l) ∙ ap is_end (x-at k l) ∙ (longest v t).no_end e k l;
            last = λ k m. ap is_end (behind k (omega arith)) ∙ end_is;
          };
          is = rw e (sym (append_assoc x end_record (trailer_of 1 (n + 1))));
        }

    -- one or the other
    pub made : Made
    made = elim (longest v t).added [ inl e ↦ made-with e | inr e ↦ made-without e ]

-- what is written of a torn file, where it is not refused
pub proper : (v : Device) (t : List ℕ) → records_in (kept_in v t) ≤ 2000 → Proper v t
proper v t few =
    let m = made v t few in
    let n : ℕ = records_in (kept_in v t) in
    let size : length (m.bytes ++ trailer_of 1 n) ≡ 20 * n + 8 = written-length m.bytes n m.clean.size m.clean.some m.clean.most in
    record {
      whole = rw m.is (clean-whole v m.bytes n m.clean);
      again = λ b room.
          let fits : 20 * n + 8 ≤ length b = omega (arith, ap length m.is) in
          rw m.is (clean-salvage v m.bytes n m.clean (trailer_of 1 n) b fits ∙ rw (trailer-length 1 n) refl);
    }
