-- The checker's own judgement of one record says whether 2 or 3 refuses it. Assumes nothing.
use Prim.Native.Nat.{ℕ, ◌+◌, ◌*◌}
use mathlib.Core.Bool.{Bool, true, false, not, ◌&&◌}
use mathlib.Core.List.{List}
use mathlib.Core.Path.{◌≡◌, refl, sym, ap, ◌∙◌}
use native.Mathlib.Omega.{arith}
use lib.Dec.{eqb}
use Rattle.ec20.specs.Basics.{pick, judged, first_fault}
use Rattle.ec20.specs.Devices.{Device}
use Rattle.ec20.specs.File.{record_from, records_from}
use Rattle.ec20.specs.Operands.{is_known, operands_ok, target_in_work, fault_of, fault_in, first_bad}
use Rattle.ec20.specs.Table.{row_of}
use Rattle.ec20.specs.Judged.{Judged}
use Rattle.ec20.specs.Judged.{Fine, Fault}
use Rattle.ec20.proofs.Parts.{refused-parts}
use Rattle.torn.specs.Kept.{passes}

-- the judgement of one record: known or not, its operands allowed or not, a target in WORK or not
abbrev one : Bool → Bool → Bool → Judged
one a b c = judged (pick (not a) 2 (pick (not b) 3 (pick c 4 0))) 0 Fine

-- no fault: it passes both
fine : (a b c : Bool) → one a b c ≡ Fine → true ≡ (a && b)
fine true true c e = refl
fine true false c e = let z : ◌≡◌ {A = ℕ} 0 1 = cc in absurd (omega arith)
fine false b c e = let z : ◌≡◌ {A = ℕ} 0 1 = cc in absurd (omega arith)

-- a fault: it passes both exactly if that is 4
fault : (a b c : Bool) (n j : ℕ) → one a b c ≡ Fault n j → eqb n 4 ≡ (a && b)
fault true true true n j e = let z : 4 ≡ n = (refused-parts 4 0 n j e).0 in ap (λ (m : ℕ). eqb m 4) (sym z)
fault true true false n j e = let z : ◌≡◌ {A = ℕ} 0 1 = cc in absurd (omega arith)
fault true false c n j e = let z : 3 ≡ n = (refused-parts 3 0 n j e).0 in ap (λ (m : ℕ). eqb m 4) (sym z)
fault false b c n j e = let z : 2 ≡ n = (refused-parts 2 0 n j e).0 in ap (λ (m : ℕ). eqb m 4) (sym z)

module _ (v : Device) (t : List ℕ) (i : ℕ) where
  -- the first bad one of one record is that record's judgement
  alone : first_bad v (records_from t i 1) ≡ judged (fault_in v (record_from t i)) 0 Fine
  unfolding first_fault
  alone = ap (λ (k : ℕ). judged (fault_in v (record_from t k)) 0 Fine) {x = i + 20 * 0} {y = i} (omega arith)

  pub passes-fine : {x : Judged} → x ≡ first_bad v (records_from t i 1) → x ≡ Fine → true ≡ passes v (record_from t i)
  unfolding fault_in fault_of passes
  passes-fine e d =
      fine (is_known (row_of (record_from t i).number) (record_from t i)) (operands_ok v (row_of (record_from t i).number) (record_from t i)) (target_in_work v (row_of (record_from t i).number) (record_from t i)) (sym (e ∙ alone) ∙ d)

  pub passes-fault : {x : Judged} (n j : ℕ) → x ≡ first_bad v (records_from t i 1) → x ≡ Fault n j → eqb n 4 ≡ passes v (record_from t i)
  unfolding fault_in fault_of passes
  passes-fault n j e d =
      fault (is_known (row_of (record_from t i).number) (record_from t i)) (operands_ok v (row_of (record_from t i).number) (record_from t i)) (target_in_work v (row_of (record_from t i).number) (record_from t i)) n j (sym (e ∙ alone) ∙ d)
