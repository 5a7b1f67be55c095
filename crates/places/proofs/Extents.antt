-- An operand with words in D, at a place that allows it, has at least one there: by the table. Assumes nothing.
use Prim.Native.Nat.{ℕ, ◌≤◌, ◌<◌}
use mathlib.Core.Bool.{true}
use mathlib.Core.Path.{◌≡◌}
use native.Mathlib.Omega.{arith}
use Rattle.ec20.proofs.InD.{first_word, second_word, third-word}
use Rattle.ec20.proofs.Laws.{no-fault}
use Rattle.ec20.proofs.NoFault.{record-fine}
use Rattle.ec20.proofs.Tests.{each}
use Rattle.ec20.specs.Devices.{Device}
use Rattle.ec20.specs.File.{Records}
use Rattle.ec20.specs.Operands.{in_d, extent_of, allowed, operands_ok, fault_in, first_bad}
use Rattle.ec20.specs.Table.{row_of}
use Rattle.ec20.specs.Judged.{Fine}
use Rattle.ec20.specs.declared.Rec.{Rec}
use Rattle.ec20.specs.declared.Row.{Row}

-- each operand of a record that has words in D has at least one
pub record Real (w : Row) (r : Rec) : Type 0 where
  pub first : in_d r.first ≡ true → 1 ≤ extent_of w.first r.first
  pub second : in_d r.second ≡ true → 1 ≤ extent_of w.second r.second
  pub third : in_d r.third ≡ true → 1 ≤ extent_of w.third r.third

module _ (v : Device) (r : Rec) (ok : operands_ok v (row_of r.number) r ≡ true) where
  abbrev w : Row
  w = row_of r.number

  allows : (allowed v w.first r.first ≡ true) × (allowed v w.second r.second ≡ true) × (allowed v w.third r.third ≡ true)
  unfolding operands_ok
  allows = each (allowed v w.first r.first) (allowed v w.second r.second) (allowed v w.third r.third) ok

  row-real : Real (row_of r.number) r
  row-real = record {
    first = λ k. first_word v r.number r.first k allows.0;
    second = λ k. second_word v r.number r.second k allows.1;
    third = λ k. third-word v r.number r.third k allows.2;
  }

-- so it is of each record that 2, 3 and 4 do not refuse
pub records-real : (v : Device) (rs : Records) → first_bad v rs ≡ Fine → (k : ℕ) → k < rs.count → Real (row_of (rs.at k).number) (rs.at k)
records-real v rs e k h =
    row-real v (rs.at k) (record-fine v (rs.at k) (no-fault (λ j. fault_in v (rs.at j)) 0 rs.count e k (omega arith) (omega arith))).1
