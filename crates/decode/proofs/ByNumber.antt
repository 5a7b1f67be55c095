-- Loops and jumps see only 19 to 23 of a record's number.
use Prim.Native.Nat.{ℕ, ◌≤◌}
use mathlib.Core.Bool.{Bool, true, false, not, ◌&&◌, ◌||◌}
use mathlib.Core.Path.{◌≡◌, refl, sym, subst}
use native.Mathlib.Omega.{arith}
use native.Mathlib.Decide.{dec_lt}
use borrow.Author.Tests.{lt-leb, le-leb}
use lib.Dec.{leb}
use Rattle.ec20.specs.declared.Form.{Form}
use Rattle.ec20.specs.declared.Form.TheVariants.{Nop as FormNop, Contact as FormContact, Join as FormJoin, Branch as FormBranch, Coil as FormCoil, Compare as FormCompare, Timer as FormTimer, For as FormFor, Next as FormNext, Jump as FormJump, Label as FormLabel, End as FormEnd, Three as FormThree, Two as FormTwo, One as FormOne}
use Rattle.ec20.specs.Forms.{form_code}
use Rattle.ec20.specs.declared.Rec.{Rec}
use Rattle.ec20.specs.declared.Control.TheVariants.{Plain, Opens, Closes, Jumps, Marks, Ends}
use Rattle.ec20.specs.declared.Row.{Row}
use Rattle.ec20.specs.Code.{instr_by, instr_of}
use Rattle.ec20.specs.Control.{control_of}
use Rattle.ec20.specs.Table.{table, row_of}
use Rattle.ec20.proofs.Tests.{differ}
use Rattle.instructions.proofs.Rows.{every_below, at_every, row-past}

-- the form is not one of FOR, NEXT, CJ, LBL and END
abbrev Loose : Form → Type 0
Loose form = (leb 7 (form_code form) && leb (form_code form) 11) ≡ false

plain_form : (form : Form) (r : Rec) → Loose form → control_of (instr_by form r) ≡ Plain
unfolding instr_by control_of
plain_form FormNop r h = refl
plain_form FormContact r h = refl
plain_form FormJoin r h = refl
plain_form FormBranch r h = refl
plain_form FormCoil r h = refl
plain_form FormCompare r h = refl
plain_form FormTimer r h = refl
plain_form FormFor r h = differ h
plain_form FormNext r h = differ h
plain_form FormJump r h = differ h
plain_form FormLabel r h = differ h
plain_form FormEnd r h = differ h
plain_form FormThree r h = refl
plain_form FormTwo r h = refl
plain_form FormOne r h = refl

-- number n is 19 to 23, or its form is none of theirs
loose_at : ℕ → Bool
loose_at n = leb 19 n && leb n 23 || not (leb 7 (form_code (row_of n).form) && leb (form_code (row_of n).form) 11)

every : every_below loose_at 56 ≡ true
unfolding loose_at row_of table
every = refl

-- a test that is one or not the other
loose-of : (a b : Bool) → (a || not b) ≡ true → a ≡ false → b ≡ false
loose-of true b e h = differ h
loose-of false true e h = differ (sym e)
loose-of false false e h = refl

outside : (n : ℕ) → (n ≡ 19 → ⊥) → (n ≡ 20 → ⊥) → (n ≡ 21 → ⊥) → (n ≡ 22 → ⊥) → (n ≡ 23 → ⊥) → (leb 19 n && leb n 23) ≡ false
outside n a b c d e =
    elim (dec_lt n 19) [
      | yes q ↦ rw (lt-leb 19 n q) refl
      | no q ↦ rw (lt-leb n 23 (let q' : 19 ≤ n = omega arith in omega arith), le-leb 19 n (omega arith)) refl
    ]

loose-form : (n : ℕ) → (leb 19 n && leb n 23) ≡ false → Loose (row_of n).form
unfolding loose_at row_of table
loose-form n h =
    elim (dec_lt n 56) [
      | yes q ↦ loose-of _ _ (at_every loose_at 56 every n q) h
      | no q ↦ subst (λ (w : Row). Loose w.form) {y = row_of n} (row-past n (omega arith)) refl
    ]

module _ (r : Rec) where
  pub opens : r.number ≡ 19 → Opens r.first.value ≡ control_of (instr_of r)
  unfolding instr_by control_of row_of table
  opens e = rw e refl

  pub closes : r.number ≡ 20 → Closes ≡ control_of (instr_of r)
  unfolding instr_by control_of row_of table
  closes e = rw e refl

  pub jumps : r.number ≡ 21 → Jumps r.first.value ≡ control_of (instr_of r)
  unfolding instr_by control_of row_of table
  jumps e = rw e refl

  pub marks : r.number ≡ 22 → Marks r.first.value ≡ control_of (instr_of r)
  unfolding instr_by control_of row_of table
  marks e = rw e refl

  pub ends : r.number ≡ 23 → Ends ≡ control_of (instr_of r)
  unfolding instr_by control_of row_of table
  ends e = rw e refl

  pub plain : (n : ℕ) → r.number ≡ n → (n ≡ 19 → ⊥) → (n ≡ 20 → ⊥) → (n ≡ 21 → ⊥) → (n ≡ 22 → ⊥) → (n ≡ 23 → ⊥) → Plain ≡ control_of (instr_of r)
  plain n q a b c d e =
      sym (plain_form (row_of r.number).form r (loose-form r.number (subst (λ (x : ℕ). (leb 19 x && leb x 23) ≡ false) (sym q) (outside n a b c d e))))
