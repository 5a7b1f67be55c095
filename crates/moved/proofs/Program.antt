-- The program of the renamed records is the renamed program, and each extent of the old one goes along whole.
use Prim.Native.Nat.{ℕ, ◌<◌}
use mathlib.Core.Bool.{Bool, true, false}
use mathlib.Core.Path.{◌≡◌, refl, sym, ap, ap₂, fun_ext, ◌∙◌}
use lib.Dec.{ltb}
use borrow.Author.Tests.{ltb-true, eq-eqb}
use Rattle.ec20.proofs.Tests.{differ, picked}
use Rattle.ec20.specs.Basics.{pick}
use Rattle.ec20.specs.declared.Form.{Form}
use Rattle.ec20.specs.declared.Instr.{Instr}
use Rattle.ec20.specs.declared.Operand.{Operand}
use Rattle.ec20.specs.declared.Place.{Place}
use Rattle.ec20.specs.declared.Rec.{Rec}
use Rattle.ec20.specs.Code.{instr_by, instr_of, code_of, program_in, no_operand}
use Rattle.ec20.specs.Devices.{Device}
use Rattle.ec20.specs.Exchange.{swapped}
use Rattle.ec20.specs.File.{Records}
use Rattle.ec20.specs.Move.{Block}
use Rattle.ec20.specs.Operands.{in_d}
use Rattle.ec20.specs.Table.{row_of}
use Rattle.ec20.specs.Forms.{form_code, form_is, form_nop, form_contact, form_join, form_branch, form_coil, form_compare, form_timer, form_for, form_next, form_jump, form_label, form_end, form_three, form_two, form_one}
use Rattle.moving.specs.Rename.{rename_operand, rename_rec, rename_instr, rename_program, Along, Whole}
use Rattle.moving.proofs.Operand.{rename-other}
use Rattle.refusals.specs.Records.{OperandAt, first, second, third}
use Rattle.blocks.specs.Apart.{Apart}
use Rattle.moved.specs.Placed.{Placed}
use Rattle.moved.proofs.Fit.{Fit, along, bare-same}
use Rattle.moved.proofs.Records.{fit}
use Rattle.moved.proofs.Rows.{has_bare, bare-first, timer-both, three-words, two-words, one_word}

-- a pick renamed
pick-renamed : (σ : ℕ → ℕ) (t : Bool) (x y x' y' : Instr) → (t ≡ true → x' ≡ rename_instr σ x) → (t ≡ false → y' ≡ rename_instr σ y)
    → pick t x' y' ≡ rename_instr σ (pick t x y)
pick-renamed σ true x y x' y' p q = p refl
pick-renamed σ false x y x' y' p q = q refl

-- no operand is none in D
none-in-D : in_d no_operand ≡ false
unfolding in_d
none-in-D = refl

none-renamed : (σ : ℕ → ℕ) → rename_operand σ no_operand ≡ no_operand
none-renamed σ = rename-other σ no_operand none-in-D

none-along : (σ : ℕ → ℕ) (e : ℕ) → Along σ e no_operand
unfolding Along
none-along σ e k = differ (sym k ∙ none-in-D)

-- record k
module _ {v : Device} {rs : Records} {b : Block} {q : ℕ} (pl : Placed v rs b q) (k : ℕ) (h : k < rs.count) where
  abbrev σ : ℕ → ℕ
  σ = swapped b q

  abbrev r : Rec
  r = rs.at k

  abbrev two : Apart v b q
  two = pl.two

  fits : {p : Place} {o : Operand} → OperandAt r p o → Fit v b q p o
  fits at = fit pl k h at

  abbrev form : Form
  form = (row_of r.number).form

  -- the first operand of a form that has a bit, passes or a label there
  first-same : (f : Form) → form ≡ f → has_bare f ≡ true → rename_operand σ r.first ≡ r.first
  first-same f e y = bare-same two (fits first) (bare-first r.number (ap has_bare e ∙ y))

  form-yes : (f : Form) → form ≡ f → form_is form f ≡ true
  form-yes f e = eq-eqb _ _ (ap form_code e)

  timer-same : form ≡ form_timer → (rename_operand σ r.first ≡ r.first) × (rename_operand σ r.second ≡ r.second)
  timer-same e =
      let n = timer-both r.number (form-yes form_timer e) in
      (bare-same two (fits first) n.0, bare-same two (fits second) n.1)

  renamed-by : (f : Form) → form ≡ f → instr_by f (rename_rec σ r) ≡ rename_instr σ (instr_by f r)
  unfolding instr_by rename_rec rename_instr
  renamed-by form_nop e = refl
  renamed-by form_contact e = rw (first-same form_contact e refl)
  renamed-by form_join e = refl
  renamed-by form_branch e = refl
  renamed-by form_coil e = rw (first-same form_coil e refl)
  renamed-by form_compare e = refl
  renamed-by form_timer e = rw ((timer-same e).0, (timer-same e).1)
  renamed-by form_for e = rw (first-same form_for e refl)
  renamed-by form_next e = refl
  renamed-by form_jump e = rw (first-same form_jump e refl)
  renamed-by form_label e = rw (first-same form_label e refl)
  renamed-by form_end e = refl
  renamed-by form_three e = refl
  renamed-by form_two e = rw (none-renamed σ)
  renamed-by form_one e = rw (none-renamed σ)

  pub instr-renamed : instr_of (rename_rec σ r) ≡ rename_instr σ (instr_of r)
  unfolding rename_rec
  instr-renamed = renamed-by form refl

  whole-by : (f : Form) → form ≡ f → Whole σ (instr_by f r)
  unfolding instr_by Whole
  whole-by form_nop e = tt
  whole-by form_contact e = tt
  whole-by form_join e = tt
  whole-by form_branch e = tt
  whole-by form_coil e = tt
  whole-by form_compare e = tt
  whole-by form_timer e = tt
  whole-by form_for e = tt
  whole-by form_next e = tt
  whole-by form_jump e = tt
  whole-by form_label e = tt
  whole-by form_end e = tt
  whole-by form_three e =
      let w = three-words r.number (form-yes form_three e) in
      (along two (fits first) _ w.0, along two (fits second) _ w.1, along two (fits third) _ w.2)
  whole-by form_two e =
      let w = two-words r.number (form-yes form_two e) in
      (along two (fits first) _ w.0, none-along σ _, along two (fits second) _ w.1)
  whole-by form_one e =
      let w = one_word r.number (form-yes form_one e) in
      (along two (fits first) _ w.0, none-along σ _, along two (fits first) _ w.1)

  pub instr-whole : Whole σ (instr_of r)
  instr-whole = whole-by form refl

-- the program of records
module _ {v : Device} {rs : Records} {b : Block} {q : ℕ} (pl : Placed v rs b q) where
  abbrev ρ : ℕ → ℕ
  ρ = swapped b q

  pub program-renamed : (ss : Records) → ss.edition ≡ rs.edition → ss.count ≡ rs.count → ((k : ℕ) → k < rs.count → ss.at k ≡ rename_rec ρ (rs.at k))
      → program_in ss ≡ rename_program ρ (program_in rs)
  unfolding code_of rename_instr
  program-renamed ss d c e =
      ap₂ (λ (n : ℕ) (code : ℕ → Instr). record { edition = ss.edition; count = n; code = code }) c (fun_ext code)
      ∙ ap (λ (n : ℕ). record { edition = n; count = rs.count; code = λ k. rename_instr ρ (code_of rs k) }) d
    where
      code : (k : ℕ) → code_of ss k ≡ rename_instr ρ (code_of rs k)
      code k =
          rw c
          (pick-renamed ρ (ltb k rs.count) _ _ _ _
          (λ t. let h : k < rs.count = ltb-true _ _ t in rw (e k h) (instr-renamed pl k h))
          (λ _. refl))

  pub program-whole : (k : ℕ) → Whole ρ (code_of rs k)
  unfolding code_of Whole
  program-whole k =
      picked (Whole ρ) (ltb k rs.count) _ _ (λ t. instr-whole pl k (ltb-true _ _ t)) (λ _. tt)
