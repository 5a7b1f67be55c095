-- The records' targets: what the use map marks of a record covers what the record's instruction writes.
use Prim.Native.Nat.{ℕ, ◌*◌}
use mathlib.Core.Bool.{Bool, true, false, ◌&&◌, ◌||◌}
use mathlib.Core.Path.{◌≡◌, refl, sym, ap, ap₂, ◌∙◌}
use native.Mathlib.Omega.{arith}
use lib.Dec.{eqb}
use borrow.Author.Tests.{eqb-true}
use Rattle.ec20.specs.declared.Form.{Form}
use Rattle.ec20.specs.declared.Operand.{Operand}
use Rattle.ec20.specs.declared.Place.{Place}
use Rattle.ec20.specs.declared.Row.{Row}
use Rattle.ec20.specs.declared.Rec.{Rec}
use Rattle.ec20.specs.Basics.{pick}
use Rattle.ec20.specs.Operands.{start_of, extent_of}
use Rattle.ec20.specs.Table.{table, row_of}
use Rattle.ec20.specs.Forms.{form_nop, form_contact, form_join, form_branch, form_coil, form_compare, form_timer, form_for, form_next, form_jump, form_label, form_end, form_three, form_two, form_one}
use Rattle.ec20.specs.Roles.{is_written}
use Rattle.ec20.specs.Code.{instr_by, instr_of}
use Rattle.ec20.specs.Words.{is}
use Rattle.ec20.specs.UseMap.{holds, some_operand, record_has}
use Rattle.ec20.proofs.EachRow.{row-test}
use Rattle.ec20.proofs.Ranges.{within-yes}
use Rattle.ec20.proofs.Tests.{both, neither, differ}
use Rattle.moving.specs.Rename.{words_of, written_by}
use Rattle.moving.proofs.Operand.{extent-place}
use Rattle.moving.proofs.Spared.{Spares, Spared}

-- ---- the table: the target of a word instruction is a place that is written, and its extent is what the instruction writes

-- of the row w of number n, at its place p
abbrev target_ok : ℕ → Row → Place → Bool
target_ok n w p =
    is_written p && eqb p.extent (pick (is n 35 52) (2 * words_of w.first.width) (words_of w.first.width))

-- at the form's target, where it has one
abbrev form_ok : Form → ℕ → Row → Bool
form_ok form_nop n w = true
form_ok form_contact n w = true
form_ok form_join n w = true
form_ok form_branch n w = true
form_ok form_coil n w = true
form_ok form_compare n w = true
form_ok form_timer n w = true
form_ok form_for n w = true
form_ok form_next n w = true
form_ok form_jump n w = true
form_ok form_label n w = true
form_ok form_end n w = true
form_ok form_three n w = target_ok n w w.third
form_ok form_two n w = target_ok n w w.second
form_ok form_one n w = target_ok n w w.first

every-row : (n : ℕ) → form_ok (row_of n).form n (row_of n) ≡ true
unfolding table
every-row n = row-test (λ n w. form_ok w.form n w) (λ n. refl) refl n

-- ---- of a record

-- the test by which a word is marked written
abbrev pub Marks : ℕ → Place → Operand → Bool
Marks i p o = is_written p && holds i p o

-- a target that does not mark word i spares it
place-spares : (i n : ℕ) (w : Row) (p : Place) (o : Operand) → w ≡ row_of n → target_ok n w p ≡ true → Marks i p o ≡ false → Spares i (written_by n) o
unfolding holds
place-spares i n w p o r ok e k j l q =
    let a = both (is_written p) _ ok in
    let x : p.extent ≡ written_by n = eqb-true _ _ a.1 ∙ ap (λ (u : Row). pick (is n 35 52) (2 * words_of u.first.width) (words_of u.first.width)) r in
    let y : extent_of p o ≡ p.extent = extent-place p o in
    differ (sym (ap₂ ◌&&◌ a.0 (ap₂ ◌&&◌ k (within-yes (start_of o) (extent_of p o) i (omega arith) (omega arith)))) ∙ e)

-- a record that does not mark word i makes an instruction that does not write it
pub record-spares : (i : ℕ) (r : Rec) → record_has (Marks i) r ≡ false → Spared i (instr_of r)
unfolding instr_by some_operand
record-spares i r e = by-form w.form (every-row r.number)
  where
    w : Row
    w = row_of r.number

    ab : (Marks i w.first r.first || Marks i w.second r.second ≡ false) × (Marks i w.third r.third ≡ false)
    ab = neither (Marks i w.first r.first || Marks i w.second r.second) (Marks i w.third r.third) e

    a : (Marks i w.first r.first ≡ false) × (Marks i w.second r.second ≡ false)
    a = neither (Marks i w.first r.first) (Marks i w.second r.second) ab.0

    by-form : (f : Form) → form_ok f r.number w ≡ true → Spared i (instr_by f r)
    by-form form_nop ok = tt
    by-form form_contact ok = tt
    by-form form_join ok = tt
    by-form form_branch ok = tt
    by-form form_coil ok = tt
    by-form form_compare ok = tt
    by-form form_timer ok = tt
    by-form form_for ok = tt
    by-form form_next ok = tt
    by-form form_jump ok = tt
    by-form form_label ok = tt
    by-form form_end ok = tt
    by-form form_three ok = place-spares i r.number w w.third r.third refl ok ab.1
    by-form form_two ok = place-spares i r.number w w.second r.second refl ok a.1
    by-form form_one ok = place-spares i r.number w w.first r.first refl ok a.0
