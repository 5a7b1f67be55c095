-- 4: WORK as the check computes it, and by its words.
use Prim.Native.Nat.{ℕ, ◌+◌, ◌-◌, ◌<◌, ◌≤◌}
use mathlib.Core.Bool.{true, false, ◌&&◌}
use mathlib.Core.Path.{◌≡◌, sym, ap₂, ◌∙◌}
use native.Mathlib.Omega.{arith}
use Rattle.ec20.specs.declared.Operand.{Operand}
use Rattle.ec20.specs.declared.Place.{Place}
use Rattle.ec20.specs.declared.Rec.{Rec}
use Rattle.ec20.specs.Devices.{Device, meets_work}
use Rattle.ec20.specs.Operands.{in_d, start_of, extent_of, allowed, in_work, operands_ok, target_in_work}
use Rattle.ec20.specs.Table.{row_of}
use Rattle.ec20.specs.Roles.{is_written}
use Rattle.ec20.specs.UseMap.{some_operand}
use Rattle.ec20.proofs.InD.{extent-in}
use Rattle.ec20.proofs.Ranges.{is-meets, common, common-meets}
use Rattle.ec20.proofs.Tests.{both, differ}
use Rattle.refusals.specs.Records.{OperandAt, Target, Work, Line4, meets}
use Rattle.refusals.proofs.Has.{has_one, one_has, some_word}
use Rattle.refusals.proofs.Operands.{all-allowed}

-- ---- the extent meets WORK: they have a word in common

pub shared : (v : Device) (a n : ℕ) → meets_work v a n ≡ true → 1 ≤ n → a + n ≤ v.words → (i : ℕ) × (a ≤ i) × (i < a + n) × Work v i
unfolding meets_work
shared v a n e l h =
    let y : v.work < a + n = (is-meets a n v.work (v.words - v.work) e).1 in
    let s = common a n v.work (v.words - v.work) l (omega arith) e in
    (s.0, s.1, s.2, record { from = omega (arith, s.3); to = omega (arith, s.2) })

pub sharing : (v : Device) (a n i : ℕ) → a ≤ i → i < a + n → Work v i → meets_work v a n ≡ true
unfolding meets_work
sharing v a n i l h k = common-meets a n v.work (v.words - v.work) i l h k.from (omega (arith, k.to, k.from))

module _ (v : Device) (r : Rec) where
  -- an operand of the record whose extent meets WORK
  a-common : {p : Place} {o : Operand} → OperandAt r p o → allowed v p o ≡ true → in_work v p o ≡ true → Line4 v r
  unfolding in_work
  a-common {p} {o} at h e =
      let a = both (is_written p && in_d o) (meets_work v (start_of o) (extent_of p o)) e in
      let b = both (is_written p) (in_d o) a.0 in
      let s = shared v (start_of o) (extent_of p o) a.1 (some_word v r at b.1 h) (extent-in v p o b.1 h) in
      meets s.0 at (record { written = b.0; in_D = b.1; from = s.1; to = s.2 }) s.3

  in-common : (p : Place) (o : Operand) (i : ℕ) → Target p o i → Work v i → in_work v p o ≡ true
  unfolding in_work
  in-common p o i t k =
      ap₂ ◌&&◌ (ap₂ ◌&&◌ t.written t.in_D) (sharing v (start_of o) (extent_of p o) i t.from t.to k)

  -- the line holds of a record whose operands are allowed exactly if a target extent meets WORK
  pub line-4 : operands_ok v (row_of r.number) r ≡ true → target_in_work v (row_of r.number) r ≡ true → Line4 v r
  unfolding target_in_work some_operand
  line-4 h e = let s = has_one (in_work v) r e in a-common s.2 (all-allowed v r h s.2) s.3

  pub not-line-4 : target_in_work v (row_of r.number) r ≡ false → Line4 v r → ⊥
  unfolding target_in_work some_operand
  not-line-4 e (meets i at t k) = differ (sym (one_has (in_work v) r at (in-common _ _ i t k)) ∙ e)
