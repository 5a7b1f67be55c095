-- The instruction due, by its number. Assumes nothing.
use Prim.Native.Nat.{ℕ, ◌+◌, ◌*◌, ◌<◌, ◌≤◌}
use mathlib.Core.Bool.{Bool, true, false, not, ◌&&◌, ◌||◌}
use mathlib.Core.Logic.{◌⊎◌, inl, inr}
use mathlib.Core.List.{List}
use mathlib.Core.Path.{◌≡◌, refl, sym, ap, ◌∙◌}
use native.Mathlib.Omega.{arith}
use native.Mathlib.Decide.{ℕ_discrete, dec_lt}
use borrow.Author.Tests.{lt-ltb, le-ltb, eqb-true, eq-eqb, ne_eqb, leb-true, lt-leb, le-leb}
use lib.Dec.{eqb, leb}
use lib.ListN.{get_or}
use Rattle.ec20.specs.Code.{instr_by, code_of, program_in}
use Rattle.ec20.specs.Control.{control_of, controls_of, next_of_for, first_label, or_past}
use Rattle.ec20.specs.File.{records_from, record_from, operand_at, u32_at, byte_at}
use Rattle.ec20.specs.Step.{width_of}
use Rattle.ec20.specs.Table.{table, row_of}
use Rattle.ec20.specs.Forms.{form_is, is_word_form, form_nop, form_contact, form_join, form_branch, form_coil, form_compare, form_timer, form_for, form_next, form_jump, form_label, form_end, form_three, form_two, form_one}
use Rattle.ec20.specs.declared.Form.{Form}
use Rattle.ec20.specs.declared.Form.TheVariants.{Nop as FormNop, Contact as FormContact, Join as FormJoin, Branch as FormBranch, Coil as FormCoil, Compare as FormCompare, Timer as FormTimer, For as FormFor, Next as FormNext, Jump as FormJump, Label as FormLabel, End as FormEnd, Three as FormThree, Two as FormTwo, One as FormOne}
use Rattle.ec20.proofs.Forms.{same_form, form_is-true}
use Rattle.ec20.proofs.Tests.{differ}
use Rattle.jumps.proofs.Within.{goes_in}
use Rattle.jumps.specs.Prepared.{goes_to, Prepared}
use Rattle.instructions.proofs.Keys.{None, beside, past}
use Rattle.instructions.proofs.Rows.{every_below, at_every}
use Rattle.ec20.specs.declared.Instr.TheVariants.{Nop, Contact, Compare, Join, Branch, Coil, Timer, For, Next, Jump, Label, End, Word}
use Rattle.ec20.specs.declared.Machine.{Machine}
use Rattle.ec20.specs.declared.Operand.{Operand}
use Rattle.ec20.specs.declared.Units.{Units}
use Rattle.step.specs.Ready.{Running, Due, Left}
use Rattle.outcomes.specs.Done.{WordAt, second_of, target_of}

-- past the last record there is END
pub ended : (f : List ℕ) (first count k : ℕ) → count ≤ k → code_of (records_from f first count) k ≡ End
unfolding code_of
ended f first count k h = rw (le-ltb _ _ h) refl

-- what the match of `exec` leaves, by its last arm
pub left-of : (B : Type 0) (n : ℕ) → None (None B 0 15 n) 18 6 n → Left n
left-of B n h =
    record {
      above = past B 0 15 n (beside (None B 0 15 n) 18 6 n h) (omega arith);
      apart = elim (dec_lt n 18) [ yes l ↦ inl l | no l ↦ inr (past (None B 0 15 n) 18 6 n h (omega arith)) ];
    }

-- The forms of the table, computed over its rows: a comparison is of 16 bits; what the match of `exec` leaves and is
-- neither a word instruction nor a comparison is no instruction.
compared_wide : ℕ → Bool
compared_wide n = not (form_is (row_of n).form form_compare) || eqb (width_of n) 16

left_form : ℕ → Bool
left_form n =
    (leb n 14 || (leb 18 n && leb n 23)) || (is_word_form (row_of n).form || form_is (row_of n).form form_compare) || form_is (row_of n).form form_nop

every-compared : every_below compared_wide 56 ≡ true
unfolding compared_wide row_of table
every-compared = refl

every-left : every_below left_form 56 ≡ true
unfolding left_form row_of table
every-left = refl

-- a word instruction has one of three forms
three : (f : Form) → is_word_form f ≡ true → (f ≡ form_three) ⊎ (f ≡ form_two) ⊎ (f ≡ form_one)
three FormNop e = differ (sym e)
three FormContact e = differ (sym e)
three FormJoin e = differ (sym e)
three FormBranch e = differ (sym e)
three FormCoil e = differ (sym e)
three FormCompare e = differ (sym e)
three FormTimer e = differ (sym e)
three FormFor e = differ (sym e)
three FormNext e = differ (sym e)
three FormJump e = differ (sym e)
three FormLabel e = differ (sym e)
three FormEnd e = differ (sym e)
three FormThree e = inl refl
three FormTwo e = inr (inl refl)
three FormOne e = inr (inr refl)

pub word-form : (f : Form) → (f ≡ form_three) ⊎ (f ≡ form_two) ⊎ (f ≡ form_one) → is_word_form f ≡ true
word-form f (inl e) = rw e refl
word-form f (inr (inl e)) = rw e refl
word-form f (inr (inr e)) = rw e refl

pub no_word : (f : Form) → (f ≡ form_three → ⊥) → (f ≡ form_two → ⊥) → (f ≡ form_one → ⊥) → is_word_form f ≡ false
no_word FormNop a b d = refl
no_word FormContact a b d = refl
no_word FormJoin a b d = refl
no_word FormBranch a b d = refl
no_word FormCoil a b d = refl
no_word FormCompare a b d = refl
no_word FormTimer a b d = refl
no_word FormFor a b d = refl
no_word FormNext a b d = refl
no_word FormJump a b d = refl
no_word FormLabel a b d = refl
no_word FormEnd a b d = refl
no_word FormThree a b d = absurd (a refl)
no_word FormTwo a b d = absurd (b refl)
no_word FormOne a b d = absurd (d refl)

-- a comparison is of 16 bits
pub sixteen : (n : ℕ) → n < 56 → (row_of n).form ≡ form_compare → width_of n ≡ 16
unfolding compared_wide
sixteen n h e = eqb-true _ _ (second-of (form_is (row_of n).form form_compare) (rw e refl) (at_every compared_wide 56 every-compared n h))
  where
    second-of : (p : Bool) {q : Bool} → p ≡ true → (not p || q) ≡ true → q ≡ true
    second-of true g h = h
    second-of false g h = differ (sym g)

last_of : (a b : Bool) {c : Bool} → a ≡ false → b ≡ false → (a || b || c) ≡ true → c ≡ true
last_of true b e f h = differ e
last_of false true e f h = differ f
last_of false false e f h = h

outside : (n : ℕ) → 15 ≤ n → (n < 18) ⊎ (24 ≤ n) → (leb n 14 || (leb 18 n && leb n 23)) ≡ false
outside n l (inl q) = rw (lt-leb n 14 l, lt-leb 18 n q) refl
outside n l (inr q) = rw (lt-leb n 14 l, lt-leb n 23 q, le-leb 18 n (omega arith)) refl

-- the others are no instruction
none : (n : ℕ) → n < 56 → Left n → is_word_form (row_of n).form ≡ false → ((row_of n).form ≡ form_compare → ⊥) → (row_of n).form ≡ form_nop
unfolding left_form
none n h l a b =
    let k : Form = (row_of n).form in
    let neither : (is_word_form k || form_is k form_compare) ≡ false = rw (a, ne_eqb _ _ (λ e. b (same_form k form_compare e))) refl in
    form_is-true k form_nop (last_of (leb n 14 || (leb 18 n && leb n 23)) (is_word_form k || form_is k form_compare) (outside n l.above l.apart) neither (at_every left_form 56 every-left n h))

inside : (f : List ℕ) (first count k : ℕ) → k < count → code_of (records_from f first count) k ≡ instr_by (row_of (record_from f (first + 20 * k)).number).form (record_from f (first + 20 * k))
unfolding code_of
inside f first count k h = rw (lt-ltb _ _ h) refl

module _ {f : List ℕ} {first count n i : ℕ} {s : Machine} (d : Due f first count n i s) where
  -- the value of an operand stands two bytes on
  on : (k : ℕ) → i + k + 2 ≡ i + (k + 2)
  on k = omega arith

  by_number : (row_of n).form ≡ (row_of (record_from f i).number).form
  unfolding record_from
  by_number = ap (λ (m : ℕ). (row_of m).form) d.number

  pub code : code_of (records_from f first count) s.pc ≡ instr_by (row_of n).form (record_from f i)
  code = rw (by_number, d.at) (inside f first count s.pc d.here)

  -- the number is k, and the table gives k this form
  at : {k : ℕ} {v : Form} → n ≡ k → (row_of k).form ≡ v → code_of (records_from f first count) s.pc ≡ instr_by v (record_from f i)
  at q g = code ∙ ap (λ (v : Form). instr_by v (record_from f i)) (ap (λ (m : ℕ). (row_of m).form) q ∙ g)

  -- and the record says k
  said : {k : ℕ} → n ≡ k → byte_at f i ≡ k
  said q = sym d.number ∙ q

  pub contact : {k : ℕ} {o : Operand} → n ≡ k → (row_of k).form ≡ form_contact → o ≡ operand_at f (i + 2) → code_of (records_from f first count) s.pc ≡ Contact k o
  unfolding instr_by record_from operand_at
  contact q g a = at q g ∙ rw (said q, a) refl

  pub join : {k : ℕ} → n ≡ k → (row_of k).form ≡ form_join → code_of (records_from f first count) s.pc ≡ Join k
  unfolding instr_by record_from operand_at
  join q g = at q g ∙ rw (said q) refl

  pub branch : {k : ℕ} → n ≡ k → (row_of k).form ≡ form_branch → code_of (records_from f first count) s.pc ≡ Branch k
  unfolding instr_by record_from operand_at
  branch q g = at q g ∙ rw (said q) refl

  pub coil : {k : ℕ} {o : Operand} → n ≡ k → (row_of k).form ≡ form_coil → o ≡ operand_at f (i + 2) → code_of (records_from f first count) s.pc ≡ Coil k o
  unfolding instr_by record_from operand_at
  coil q g a = at q g ∙ rw (said q, a) refl

  pub timer : {k o u : ℕ} → n ≡ k → (row_of k).form ≡ form_timer → o ≡ u32_at f (i + 4) → u ≡ u32_at f (i + 10) → code_of (records_from f first count) s.pc ≡ Timer o u
  unfolding instr_by record_from operand_at
  timer q g a b = at q g ∙ rw (a, b, on 2, on 8) refl

  pub opens : {k o : ℕ} → n ≡ k → (row_of k).form ≡ form_for → o ≡ u32_at f (i + 4) → code_of (records_from f first count) s.pc ≡ For o
  unfolding instr_by record_from operand_at
  opens q g a = at q g ∙ rw (a, on 2) refl

  pub closes : {k : ℕ} → n ≡ k → (row_of k).form ≡ form_next → code_of (records_from f first count) s.pc ≡ Next
  unfolding instr_by record_from operand_at
  closes q g = at q g ∙ refl

  pub jumps : {k o : ℕ} → n ≡ k → (row_of k).form ≡ form_jump → o ≡ u32_at f (i + 4) → code_of (records_from f first count) s.pc ≡ Jump o
  unfolding instr_by record_from operand_at
  jumps q g a = at q g ∙ rw (a, on 2) refl

  pub marks : {k : ℕ} → n ≡ k → (row_of k).form ≡ form_label → code_of (records_from f first count) s.pc ≡ Label (u32_at f (i + 4))
  unfolding instr_by record_from operand_at
  marks q g = at q g ∙ rw (on 2) refl

  pub ends : {k : ℕ} → n ≡ k → (row_of k).form ≡ form_end → code_of (records_from f first count) s.pc ≡ End
  unfolding instr_by record_from operand_at
  ends q g = at q g ∙ refl

  pub nop : {k : ℕ} → n ≡ k → (row_of k).form ≡ form_nop → code_of (records_from f first count) s.pc ≡ Nop
  unfolding instr_by
  nop q g = at q g ∙ refl

  pub word : is_word_form (row_of n).form ≡ true → code_of (records_from f first count) s.pc ≡ Word n (operand_at f (i + 2)) (second_of f n i) (target_of f n i)
  unfolding instr_by record_from
  word l =
      elim (three (row_of n).form l) [
        | inl k ↦ code ∙ rw (k, ← d.number) refl
        | inr (inl k) ↦ code ∙ rw (k, ← d.number) refl
        | inr (inr k) ↦ code ∙ rw (k, ← d.number) refl
      ]

  -- as the word instructions ask it
  pub word_at : is_word_form (row_of n).form ≡ true → WordAt (width_of n) n i f
  word_at l = record { known = d.known; form = l; width = refl; near = d.near; room = d.room }

  pub compare : {o u : Operand} → (row_of n).form ≡ form_compare → o ≡ operand_at f (i + 2) → u ≡ operand_at f (i + 8) → code_of (records_from f first count) s.pc ≡ Compare n o u
  unfolding instr_by record_from operand_at
  compare g a b = code ∙ rw (g, ← d.number, a, b) refl

  pub plain : Left n → is_word_form (row_of n).form ≡ false → ((row_of n).form ≡ form_compare → ⊥) → code_of (records_from f first count) s.pc ≡ Nop
  unfolding instr_by
  plain l w h = code ∙ rw (none n d.known l w h) refl

  module _ {goes : List ℕ} {u : Units} (r : Running f first count goes u) where
    -- where the record due goes is looked up
    goes-there : get_or goes s.pc 0 ≡ goes_to (controls_of (program_in (records_from f first count))) count s.pc (controls_of (program_in (records_from f first count)) s.pc)
    unfolding Prepared
    goes-there = r.prepared s.pc

    pub goes_near : get_or goes s.pc 0 ≤ 2000
    goes_near =
        let code = controls_of (program_in (records_from f first count)) in
        omega (arith, goes-there, goes_in code count s.pc (code s.pc), r.held.most)

    -- of a FOR its NEXT
    pub next-there : {o k : ℕ} → n ≡ k → (row_of k).form ≡ form_for → o ≡ u32_at f (i + 4)
        → get_or goes s.pc 0 ≡ or_past count (next_of_for (controls_of (program_in (records_from f first count))) count s.pc)
    unfolding goes_to control_of
    next-there q g a = goes-there ∙ rw (opens q g a) refl

    -- of a CJ its label
    pub label-there : {o k : ℕ} → n ≡ k → (row_of k).form ≡ form_jump → o ≡ u32_at f (i + 4)
        → get_or goes s.pc 0 ≡ or_past count (first_label (controls_of (program_in (records_from f first count))) count o)
    unfolding goes_to control_of
    label-there q g a = goes-there ∙ rw (jumps q g a) refl
