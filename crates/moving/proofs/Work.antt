-- WORK is changed by no scan of an accepted file.
use Prim.Native.Nat.{ℕ, ◌≤◌}
use mathlib.Core.Bool.{Bool, true, false}
use mathlib.Core.List.{List}
use mathlib.Core.Path.{◌≡◌, refl, sym, ◌∙◌}
use native.Mathlib.Omega.{arith}
use native.Mathlib.Decide.{dec_lt}
use lib.ListN.{length, get_or-eq_default}
use lib.IntN.{pos}
use Rattle.std.specs.Prelude.{Err, Ok}
use Rattle.ec20.specs.declared.Operand.{Operand}
use Rattle.ec20.specs.declared.Place.{Place}
use Rattle.ec20.specs.declared.Rec.{Rec}
use Rattle.ec20.specs.Verdict.{Verdict}
use Rattle.ec20.specs.Verdict.{Accepted}
use Rattle.ec20.specs.Devices.{Device, within}
use Rattle.ec20.specs.Operands.{in_d, start_of, extent_of}
use Rattle.ec20.specs.Roles.{is_written}
use Rattle.ec20.specs.File.{records_of}
use Rattle.ec20.specs.Code.{Program, program_of}
use Rattle.ec20.specs.Check.{check_for}
use Rattle.ec20.specs.Registers.{word_at}
use Rattle.ec20.specs.Plant.{Plant, units_in}
use Rattle.ec20.specs.Scan.{Scan, run_scan, timed_scan, fitting, scan_if, scan_for}
use Rattle.ec20.specs.UseMap.{holds, record_has, some_record, marked_written}
use Rattle.ec20.proofs.Ranges.{is_within}
use Rattle.ec20.proofs.Some.{some_at}
use Rattle.ec20.proofs.Tests.{both, picked}
use Rattle.refusals.specs.Records.{OperandAt, Work, Line4, meets, by_4}
use Rattle.refusals.proofs.Has.{has_one}
use Rattle.refusals.proofs.Refused.{not-refused}
use Rattle.moving.proofs.Scan.{fitting-words}
use Rattle.moving.proofs.Keeps.{length-scan}
use Rattle.moving.proofs.Targets.{Marks}
use Rattle.moving.proofs.Kept.{kept}

module _ (v : Device) (i : ℕ) (work : Work v i) where
  -- an operand that marks a word of WORK written is refused by 4
  marks-work : {r : Rec} {p : Place} {o : Operand} → OperandAt r p o → Marks i p o ≡ true → Line4 v r
  unfolding holds
  marks-work {r} {p} {o} at e =
      let a = both (is_written p) (holds i p o) e in
      let b = both (in_d o) (within (start_of o) (extent_of p o) i) a.1 in
      let c = is_within (start_of o) (extent_of p o) i b.1 in
      meets i at (record { written = a.0; in_D = b.0; from = c.0; to = c.1 }) work

  record-work : (r : Rec) → record_has (Marks i) r ≡ true → Line4 v r
  record-work r e = let s = has_one (Marks i) r e in marks-work s.2 s.3

  -- no word of WORK is marked written in an accepted file
  pub work-unmarked : (f : List ℕ) (n w : ℕ) → check_for v f ≡ Accepted n w → marked_written (records_of f) i ≡ false
  unfolding marked_written some_record
  work-unmarked f n w ok = go (marked_written (records_of f) i) refl
    where
      go : (t : Bool) → marked_written (records_of f) i ≡ t → marked_written (records_of f) i ≡ false
      go true e =
          let s = some_at (λ k. record_has (Marks i) ((records_of f).at k)) 0 (records_of f).count e in
          absurd (((not-refused v f n w).0 ok).3 s.0 (omega (arith, s.2)) (by_4 (record-work ((records_of f).at s.0) s.3)))
      go false e = e

-- what lies past the D table reads as 0, before a scan and after it
past-if : (v : Device) (a : Verdict) (p : Program) (i : ℕ) → v.words ≤ i → (e budget : ℕ) (q : Plant)
    → word_at (scan_if v a p e budget q).plant.mem.d i ≡ word_at q.mem.d i
unfolding timed_scan
past-if v (Ok a) p i h e budget q =
    picked (λ (s : Scan). word_at s.plant.mem.d i ≡ word_at q.mem.d i) (fitting v e q) _ _
    (λ t.
    let u = units_in e q.rest in
    let l : length q.mem.d ≡ v.words = fitting-words v e q t in
    let k : length (run_scan v p u budget q.mem).mem.d ≡ length q.mem.d = length-scan v p u budget q.mem in
    get_or-eq_default (run_scan v p u budget q.mem).mem.d (pos 0) (omega arith) ∙ sym (get_or-eq_default q.mem.d (pos 0) (omega arith)))
    (λ _. refl)
past-if v (Err r) p i h e budget q = refl

-- WORK: in a scan of an accepted file no word from the first of WORK on changes, for every device, elapsed time, budget and memory
pub work-kept : (v : Device) (f : List ℕ) (n w : ℕ) → check_for v f ≡ Accepted n w → (i : ℕ) → v.work ≤ i → (e budget : ℕ) (q : Plant)
    → word_at (scan_for v f e budget q).plant.mem.d i ≡ word_at q.mem.d i
unfolding scan_for
work-kept v f n w ok i h e budget q =
    elim (dec_lt i v.words) [
      | yes l ↦ kept v i f (work-unmarked v i (record { from = h; to = l }) f n w ok) e budget q
      | no l ↦ past-if v (check_for v f) (program_of f) i (omega arith) e budget q
    ]
