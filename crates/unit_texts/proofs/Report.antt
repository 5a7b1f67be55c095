-- A report depends on the declarations below the count alone, so that the table of a list, with the list's count, reports what the list does: one of over
-- 64 is refused before any of them is looked at. Assumes nothing.
use Prim.Native.Nat.{ℕ, zero, suc, ◌+◌, ◌<◌, ◌≤◌}
use mathlib.Core.List.{List}
use mathlib.Core.Path.{◌≡◌, refl}
use native.Mathlib.Decide.{dec_le}
use native.Mathlib.Omega.{arith}
use lib.ListN.{length, replicate}
use borrow.Author.Tests.{lt-leb}
use Rattle.units.proofs.Walk.{kept_at}
use Rattle.units.specs.Clash.{Declared, none, listed, tabled}
use Rattle.units.specs.Reading.{Read}
use Rattle.units.specs.Report.{clashes_with, clashes_from, blocks_fault, list_fault, judge_clashes, report_of}
use Rattle.units.specs.declared.Declaration.{Declaration}
use Rattle.unit_texts.specs.Held.{nothing, table_of, held_of}

-- two lists of the same count
module _ (m : ℕ) (f g : ℕ → Declaration) where
  abbrev one : Declared
  one = record { count = m; at = f }

  abbrev other : Declared
  other = record { count = m; at = g }

  -- whose declarations below the count are the same
  module _ (same : (i : ℕ) → i < m → f i ≡ g i) where
    pub with-same : (i j n : ℕ) → i < m → j + n ≤ m → clashes_with one i j n ≡ clashes_with other i j n
    unfolding clashes_with
    with-same i j zero l h = refl
    with-same i j (suc n) l h = rw (same i l, same j (omega arith), with-same i (suc j) n l (omega arith))

    pub from-same : (i n : ℕ) → i + n ≤ m → clashes_from one i n ≡ clashes_from other i n
    unfolding clashes_from
    from-same i zero h = refl
    from-same i (suc n) h = rw (with-same i (suc i) n (omega arith) (omega arith), from-same (suc i) n (omega arith))

    pub blocks-same : (i n : ℕ) → i + n ≤ m → blocks_fault one i n ≡ blocks_fault other i n
    unfolding blocks_fault
    blocks-same i zero h = refl
    blocks-same i (suc n) h = rw (same i (omega arith), blocks-same (suc i) n (omega arith))

  pub report-same : (m ≤ 64 → (i : ℕ) → i < m → f i ≡ g i) → (b : List (List ℕ)) → report_of one b ≡ report_of other b
  unfolding report_of judge_clashes list_fault
  report-same same b =
      elim (dec_le m 64) [
        | yes h ↦ rw (blocks-same (same h) 0 m (omega arith), from-same (same h) 0 m (omega arith))
        | no h ↦ let l : 64 < m = omega arith in rw (lt-leb m 64 l)
      ]

-- the table of a list reports what the list does
pub table-reports : (ds : List Declaration) (b : List (List ℕ)) → report_of (tabled (table_of ds) (length ds)) b ≡ report_of (listed ds) b
unfolding table_of
table-reports ds b = report-same (length ds) _ _ (λ h i l. kept_at (replicate 64 nothing) ds i none (omega arith) l) b

-- and so does what is held of a unit list that was read
pub held-reports : (r : Read Declaration) (b : List (List ℕ)) → report_of (tabled (held_of r).table (held_of r).count) b ≡ report_of (listed r.list) b
unfolding held_of
held-reports r b = table-reports r.list b
