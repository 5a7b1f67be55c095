-- The rung rule and its state as the check computes them (`keeps`, `after_record`), and in words (`Keeps`, `Goes_on`).
use Prim.Native.Nat.{ℕ, ◌+◌, ◌-◌, ◌<◌, ◌≤◌}
use mathlib.Core.Bool.{Bool, true, false, not, ◌&&◌, ◌||◌}
use mathlib.Core.List.{List}
use mathlib.Core.Logic.{◌↔◌}
use mathlib.Core.Path.{◌≡◌, refl, sym, ap, ap₂, subst, ◌∙◌}
use native.Mathlib.Decide.{dec_le, ℕ_discrete}
use native.Mathlib.Omega.{arith}
use lib.Dec.{leb, ltb, eqb}
use borrow.Author.Tests.{leb-true, ltb-true, lt-ltb, eqb-true, eqb-false, eq-eqb}
use Rattle.ec20.specs.declared.Form.{Form}
use Rattle.ec20.specs.declared.Instr.{Instr}
use Rattle.ec20.specs.declared.Instr.TheVariants.{Nop, Contact, Compare, Join, Branch, Coil, Timer, For, Next, Jump, Label, End, Word}
use Rattle.ec20.specs.declared.Rec.{Rec}
use Rattle.ec20.specs.declared.Rung.{Rung}
use Rattle.ec20.specs.Basics.{pick}
use Rattle.ec20.specs.Code.{instr_by, instr_of, code_of, program_of}
use Rattle.ec20.specs.File.{records_of}
use Rattle.ec20.specs.Forms.{form_nop, form_contact, form_join, form_branch, form_coil, form_compare, form_timer, form_for, form_next, form_jump, form_label, form_end, form_three, form_two, form_one}
use Rattle.ec20.specs.Rung.{rung, is_load, starts, both_empty, load_ok, action_ok, branch_ok, keeps, after_load, branches_after, after_action, no_flow, after_record}
use Rattle.ec20.specs.Table.{table, row_of}
use Rattle.ec20.proofs.EachRow.{row-test}
use Rattle.ec20.proofs.Tests.{both, neither, or_right, differ, implied, picked}
use Rattle.refusals.specs.Keeps.{number_of, LDType, of_a_bit, of_a_comparison, Action, from_12_to_14, is_18, from_32}
use Rattle.refusals.specs.Keeps.{Flowless, is_NOP, is_LD, is_FOR, is_NEXT, is_LBL, is_END, Blockless, acts, is_MPS, is_MRD, is_MPP}
use Rattle.refusals.specs.Keeps.{Starts, absent, after_an_action, BothEmpty, Keeps, Goes_on}

-- ---- an instruction that a record makes has one of its form's numbers

abbrev pub Formed : Instr → Type 0
Formed Nop = Unit {0}
Formed (Contact n o) = (1 ≤ n) × (n ≤ 6)
Formed (Compare n a b) = (15 ≤ n) × (n ≤ 17)
Formed (Join n) = (7 ≤ n) × (n ≤ 8)
Formed (Branch n) = (9 ≤ n) × (n ≤ 11)
Formed (Coil n o) = (12 ≤ n) × (n ≤ 14)
Formed (Timer i c) = Unit {0}
Formed (For c) = Unit {0}
Formed Next = Unit {0}
Formed (Jump l) = Unit {0}
Formed (Label l) = Unit {0}
Formed End = Unit {0}
Formed (Word n a b t) = 32 ≤ n

-- the numbers that a form has in the table
abbrev fits : Form → ℕ → Bool
fits form_nop n = true
fits form_contact n = leb 1 n && leb n 6
fits form_join n = leb 7 n && leb n 8
fits form_branch n = leb 9 n && leb n 11
fits form_coil n = leb 12 n && leb n 14
fits form_compare n = leb 15 n && leb n 17
fits form_timer n = true
fits form_for n = true
fits form_next n = true
fits form_jump n = true
fits form_label n = true
fits form_end n = true
fits form_three n = leb 32 n
fits form_two n = leb 32 n
fits form_one n = leb 32 n

row_fits : (n : ℕ) → fits (row_of n).form n ≡ true
unfolding table
row_fits n = row-test (λ n w. fits w.form n) (λ n. refl) refl n

within : (a n b : ℕ) → (leb a n && leb n b) ≡ true → (a ≤ n) × (n ≤ b)
within a n b e = let q = both (leb a n) (leb n b) e in (leb-true _ _ q.0, leb-true _ _ q.1)

formed-by : (form : Form) (r : Rec) → fits form r.number ≡ true → Formed (instr_by form r)
unfolding instr_by
formed-by form_nop r e = tt
formed-by form_contact r e = within 1 r.number 6 e
formed-by form_join r e = within 7 r.number 8 e
formed-by form_branch r e = within 9 r.number 11 e
formed-by form_coil r e = within 12 r.number 14 e
formed-by form_compare r e = within 15 r.number 17 e
formed-by form_timer r e = tt
formed-by form_for r e = tt
formed-by form_next r e = tt
formed-by form_jump r e = tt
formed-by form_label r e = tt
formed-by form_end r e = tt
formed-by form_three r e = leb-true 32 r.number e
formed-by form_two r e = leb-true 32 r.number e
formed-by form_one r e = leb-true 32 r.number e

-- so has each instruction of a file
pub formed : (f : List ℕ) (k : ℕ) → Formed ((program_of f).code k)
unfolding program_of code_of
formed f k =
    let r : Rec = (records_of f).at k in
    picked Formed (ltb k (records_of f).count) _ _ (λ _. formed-by (row_of r.number).form r (row_fits r.number)) (λ _. tt)

-- and the number of the instruction that a known record makes is the record's own
abbrev numbered : Form → ℕ → ℕ
numbered form_nop n = 0
numbered form_contact n = n
numbered form_join n = n
numbered form_branch n = n
numbered form_coil n = n
numbered form_compare n = n
numbered form_timer n = 18
numbered form_for n = 19
numbered form_next n = 20
numbered form_jump n = 21
numbered form_label n = 22
numbered form_end n = 23
numbered form_three n = n
numbered form_two n = n
numbered form_one n = n

number_by : (form : Form) (r : Rec) → number_of (instr_by form r) ≡ numbered form r.number
unfolding instr_by
number_by form_nop r = refl
number_by form_contact r = refl
number_by form_join r = refl
number_by form_branch r = refl
number_by form_coil r = refl
number_by form_compare r = refl
number_by form_timer r = refl
number_by form_for r = refl
number_by form_next r = refl
number_by form_jump r = refl
number_by form_label r = refl
number_by form_end r = refl
number_by form_three r = refl
number_by form_two r = refl
number_by form_one r = refl

row-numbered : (n : ℕ) → (not (row_of n).known || eqb (numbered (row_of n).form n) n) ≡ true
unfolding table
row-numbered n = row-test (λ n w. not w.known || eqb (numbered w.form n) n) (λ n. refl) refl n

pub own-number : (r : Rec) → (row_of r.number).known ≡ true → number_of (instr_of r) ≡ r.number
own-number r k = number_by (row_of r.number).form r ∙ eqb-true _ _ (implied (row_of r.number).known _ (row-numbered r.number) k)

-- ---- the sorts of instruction, by cases

ld : {n : ℕ} {A : Type 0} → LDType n → (1 ≤ n → n ≤ 2 → A) → (15 ≤ n → n ≤ 17 → A) → A
ld (of_a_bit a b) f g = f a b
ld (of_a_comparison a b) f g = g a b

act : {n : ℕ} {A : Type 0} → Action n → (12 ≤ n → n ≤ 14 → A) → (n ≡ 18 → A) → (32 ≤ n → A) → A
act (from_12_to_14 a b) f g h = f a b
act (is_18 e) f g h = g e
act (from_32 a) f g h = h a

free : {n : ℕ} {A : Type 0} → Flowless n → (n ≡ 0 → A) → (1 ≤ n → n ≤ 2 → A) → (15 ≤ n → n ≤ 17 → A) → (19 ≤ n → n ≤ 20 → A) → (22 ≤ n → n ≤ 23 → A) → A
free (is_NOP e) a b c d g = a e
free (is_LD l) a b c d g = ld l b c
free (is_FOR e) a b c d g = d (omega arith) (omega arith)
free (is_NEXT e) a b c d g = d (omega arith) (omega arith)
free (is_LBL e) a b c d g = g (omega arith) (omega arith)
free (is_END e) a b c d g = g (omega arith) (omega arith)

bare : {n : ℕ} {A : Type 0} → Blockless n → (9 ≤ n → n ≤ 14 → A) → (n ≡ 18 → A) → (32 ≤ n → A) → A
bare (acts x) f g h = act x (λ a b. f (omega arith) b) g h
bare (is_MPS e) f g h = f (omega arith) (omega arith)
bare (is_MRD e) f g h = f (omega arith) (omega arith)
bare (is_MPP e) f g h = f (omega arith) (omega arith)

ld-dec : (n : ℕ) → Dec (LDType n)
ld-dec n =
    elim (dec_le 1 n) [
      | yes a ↦ elim (dec_le n 2) [
        | yes b ↦ yes (of_a_bit a b)
        | no b ↦ elim (dec_le 15 n) [
          | yes c ↦ elim (dec_le n 17) [ yes d ↦ yes (of_a_comparison c d) | no d ↦ no (λ l. ld l (λ x y. omega arith) (λ x y. omega arith)) ]
          | no c ↦ no (λ l. ld l (λ x y. omega arith) (λ x y. omega arith))
        ]
      ]
      | no a ↦ no (λ l. ld l (λ x y. omega arith) (λ x y. omega arith))
    ]

act-dec : (n : ℕ) → Dec (Action n)
act-dec n =
    elim (dec_le 32 n) [
      | yes a ↦ yes (from_32 a)
      | no a ↦ elim (ℕ_discrete n 18) [
        | yes b ↦ yes (is_18 b)
        | no b ↦ elim (dec_le 12 n) [
          | yes c ↦ elim (dec_le n 14) [ yes d ↦ yes (from_12_to_14 c d) | no d ↦ no (λ l. act l (λ x y. omega arith) (λ x. b x) (λ x. omega arith)) ]
          | no c ↦ no (λ l. act l (λ x y. omega arith) (λ x. b x) (λ x. omega arith))
        ]
      ]
    ]

-- ---- where a rung starts

starting : (s : Rung) → starts s ≡ true → Starts s
starting s e = go s.present s.action refl refl e
  where
    go : (p a : Bool) → s.present ≡ p → s.action ≡ a → (not p || a) ≡ true → Starts s
    go false a x y e = absent x
    go true a x y e = after_an_action (y ∙ e)

of-starting : (s : Rung) → Starts s → starts s ≡ true
of-starting s (absent e) = ap (λ (b : Bool). not b || s.action) e
of-starting s (after_an_action e) = or_right (not s.present) s.action e

not-starting : (s : Rung) → starts s ≡ false → Starts s → ⊥
not-starting s e z = differ (sym (of-starting s z) ∙ e)

empty : (s : Rung) → both_empty s ≡ true → BothEmpty s
empty s e = let q = both (eqb s.blocks 0) (eqb s.branches 0) e in record { blocks = eqb-true _ _ q.0; branches = eqb-true _ _ q.1 }

of-empty : (s : Rung) → BothEmpty s → both_empty s ≡ true
of-empty s z = ap₂ ◌&&◌ (eq-eqb _ _ z.blocks) (eq-eqb _ _ z.branches)

-- ---- the rule, by the sorts

abbrev Load : Rung → Type 0
Load s = (Starts s → BothEmpty s) × ((Starts s → ⊥) → s.blocks < 8)

load : (s : Rung) → load_ok s ≡ true → Load s
unfolding load_ok
load s e = go (starts s) refl e
  where
    go : (t : Bool) → starts s ≡ t → pick t (both_empty s) (ltb s.blocks 8) ≡ true → Load s
    go true q e = (λ _. empty s e, λ f. absurd (f (starting s q)))
    go false q e = (λ z. absurd (not-starting s q z), λ _. ltb-true _ _ e)

of-load : (s : Rung) → Load s → load_ok s ≡ true
unfolding load_ok
of-load s z = go (starts s) refl
  where
    go : (t : Bool) → starts s ≡ t → pick t (both_empty s) (ltb s.blocks 8) ≡ true
    go true q = of-empty s (z.0 (starting s q))
    go false q = lt-ltb _ _ (z.1 (not-starting s q))

abbrev Acting : Rung → Type 0
Acting s = (s.present ≡ true) × (s.blocks ≡ 0)

acting : (s : Rung) → action_ok s ≡ true → Acting s
unfolding action_ok
acting s e = let q = both s.present (eqb s.blocks 0) e in (q.0, eqb-true _ _ q.1)

of-acting : (s : Rung) → Acting s → action_ok s ≡ true
unfolding action_ok
of-acting s z = ap₂ ◌&&◌ z.0 (eq-eqb _ _ z.1)

-- what MPS, MRD and MPP ask of the branch stack
abbrev Branching : ℕ → Rung → Type 0
Branching n s = (n ≡ 9 → s.branches < 8) × ((n ≡ 9 → ⊥) → 0 < s.branches)

branching : (n : ℕ) (s : Rung) → pick (eqb n 9) (ltb s.branches 8) (ltb 0 s.branches) ≡ true → Branching n s
branching n s e = go (eqb n 9) refl e
  where
    go : (t : Bool) → eqb n 9 ≡ t → pick t (ltb s.branches 8) (ltb 0 s.branches) ≡ true → Branching n s
    go true q e = (λ _. ltb-true _ _ e, λ f. absurd (f (eqb-true _ _ q)))
    go false q e = (λ x. absurd (eqb-false _ _ q x), λ _. ltb-true _ _ e)

of-branching : (n : ℕ) (s : Rung) → Branching n s → pick (eqb n 9) (ltb s.branches 8) (ltb 0 s.branches) ≡ true
of-branching n s z = go (eqb n 9) refl
  where
    go : (t : Bool) → eqb n 9 ≡ t → pick t (ltb s.branches 8) (ltb 0 s.branches) ≡ true
    go true q = lt-ltb _ _ (z.0 (eqb-true _ _ q))
    go false q = lt-ltb _ _ (z.1 (eqb-false _ _ q))

-- each sort of instruction keeps the rule exactly if what its sentences ask holds
keeps-nop : (s : Rung) → Keeps 0 s
keeps-nop s =
    record {
      flow = λ f. absurd (f (is_NOP refl));
      starting = λ l z. absurd (ld l (λ a b. omega arith) (λ a b. omega arith));
      control = λ x y. omega arith;
      blockless = λ x. absurd (bare x (λ a b. omega arith) (λ e. omega arith) (λ a. omega arith));
      block_room = λ l z. absurd (ld l (λ a b. omega arith) (λ a b. omega arith));
      block_there = λ x y. omega arith;
      branch_room = λ e. omega arith;
      branch_there = λ e. omega arith;
      entry = λ e. omega arith;
    }

keeps-load : (n : ℕ) (s : Rung) → LDType n → Load s → Keeps n s
keeps-load n s l z =
    record {
      flow = λ f. absurd (f (is_LD l));
      starting = λ _ x. z.0 x;
      control = λ x y. absurd (ld l (λ a b. omega arith) (λ a b. omega arith));
      blockless = λ x. absurd (ld l (λ a b. bare x (λ p q. omega arith) (λ e. omega arith) (λ p. omega arith)) (λ a b. bare x (λ p q. omega arith) (λ e. omega arith) (λ p. omega arith)));
      block_room = λ _ f. let h : s.blocks < 8 = z.1 f in omega arith;
      block_there = λ x y. absurd (ld l (λ a b. omega arith) (λ a b. omega arith));
      branch_room = λ e. absurd (ld l (λ a b. omega arith) (λ a b. omega arith));
      branch_there = λ e. absurd (ld l (λ a b. omega arith) (λ a b. omega arith));
      entry = λ e. absurd (ld l (λ a b. omega arith) (λ a b. omega arith));
    }

keeps-contact : (n : ℕ) (s : Rung) → 3 ≤ n → n ≤ 6 → s.present ≡ true → Keeps n s
keeps-contact n s g h p =
    record {
      flow = λ _. p;
      starting = λ l z. absurd (ld l (λ a b. omega arith) (λ a b. omega arith));
      control = λ x y. omega arith;
      blockless = λ x. absurd (bare x (λ a b. omega arith) (λ e. omega arith) (λ a. omega arith));
      block_room = λ l z. absurd (ld l (λ a b. omega arith) (λ a b. omega arith));
      block_there = λ x y. omega arith;
      branch_room = λ e. omega arith;
      branch_there = λ e. omega arith;
      entry = λ e. omega arith;
    }

keeps-join : (n : ℕ) (s : Rung) → 7 ≤ n → n ≤ 8 → s.present ≡ true → 0 < s.blocks → Keeps n s
keeps-join n s g h p q =
    record {
      flow = λ _. p;
      starting = λ l z. absurd (ld l (λ a b. omega arith) (λ a b. omega arith));
      control = λ x y. omega arith;
      blockless = λ x. absurd (bare x (λ a b. omega arith) (λ e. omega arith) (λ a. omega arith));
      block_room = λ l z. absurd (ld l (λ a b. omega arith) (λ a b. omega arith));
      block_there = λ _ _. q;
      branch_room = λ e. omega arith;
      branch_there = λ e. omega arith;
      entry = λ e. omega arith;
    }

keeps-branch : (n : ℕ) (s : Rung) → 9 ≤ n → n ≤ 11 → Acting s → Branching n s → Keeps n s
keeps-branch n s g h p q =
    record {
      flow = λ _. p.0;
      starting = λ l z. absurd (ld l (λ a b. omega arith) (λ a b. omega arith));
      control = λ x y. omega arith;
      blockless = λ _. p.1;
      block_room = λ l z. absurd (ld l (λ a b. omega arith) (λ a b. omega arith));
      block_there = λ x y. omega arith;
      branch_room = λ e. q.0 e;
      branch_there = λ e. q.1 (λ d. omega arith);
      entry = λ e. let h : 0 < s.branches = q.1 (λ d. omega arith) in omega arith;
    }

keeps-action : (n : ℕ) (s : Rung) → Action n → Acting s → Keeps n s
keeps-action n s a p =
    record {
      flow = λ _. p.0;
      starting = λ l z. absurd (act a (λ x y. ld l (λ p q. omega arith) (λ p q. omega arith)) (λ x. ld l (λ p q. omega arith) (λ p q. omega arith)) (λ x. ld l (λ p q. omega arith) (λ p q. omega arith)));
      control = λ p q. absurd (act a (λ x y. omega arith) (λ x. omega arith) (λ x. omega arith));
      blockless = λ _. p.1;
      block_room = λ l z. absurd (act a (λ x y. ld l (λ p q. omega arith) (λ p q. omega arith)) (λ x. ld l (λ p q. omega arith) (λ p q. omega arith)) (λ x. ld l (λ p q. omega arith) (λ p q. omega arith)));
      block_there = λ p q. absurd (act a (λ x y. omega arith) (λ x. omega arith) (λ x. omega arith));
      branch_room = λ e. absurd (act a (λ x y. omega arith) (λ x. omega arith) (λ x. omega arith));
      branch_there = λ e. absurd (act a (λ x y. omega arith) (λ x. omega arith) (λ x. omega arith));
      entry = λ e. absurd (act a (λ x y. omega arith) (λ x. omega arith) (λ x. omega arith));
    }

keeps-control : (n : ℕ) (s : Rung) → 19 ≤ n → n ≤ 23 → BothEmpty s → ((Flowless n → ⊥) → s.present ≡ true) → Keeps n s
keeps-control n s g h z p =
    record {
      flow = p;
      starting = λ l z. absurd (ld l (λ a b. omega arith) (λ a b. omega arith));
      control = λ _ _. z;
      blockless = λ x. absurd (bare x (λ a b. omega arith) (λ e. omega arith) (λ a. omega arith));
      block_room = λ l z. absurd (ld l (λ a b. omega arith) (λ a b. omega arith));
      block_there = λ x y. omega arith;
      branch_room = λ e. omega arith;
      branch_there = λ e. omega arith;
      entry = λ e. omega arith;
    }

-- no flow is needed by these alone
with-flow : {n : ℕ} → 3 ≤ n → n ≤ 14 → Flowless n → ⊥
with-flow g h f = free f (λ e. omega arith) (λ a b. omega arith) (λ a b. omega arith) (λ a b. omega arith) (λ a b. omega arith)

action-flow : {n : ℕ} → Action n → Flowless n → ⊥
action-flow a f =
    act a (λ x y. with-flow (omega arith) (omega arith) f)
    (λ x. free f (λ e. omega arith) (λ p q. omega arith) (λ p q. omega arith) (λ p q. omega arith) (λ p q. omega arith))
    (λ x. free f (λ e. omega arith) (λ p q. omega arith) (λ p q. omega arith) (λ p q. omega arith) (λ p q. omega arith))

jump-flow : Flowless 21 → ⊥
jump-flow f = free f (λ e. omega arith) (λ p q. omega arith) (λ p q. omega arith) (λ p q. omega arith) (λ p q. omega arith)

by-load : (n : ℕ) (s : Rung) → LDType n → (load_ok s ≡ true) ↔ Keeps n s
by-load n s l = (λ e. keeps-load n s l (load s e), λ k. of-load s (k.starting l, k.block_room l))

by-action : (n : ℕ) (s : Rung) → Action n → (action_ok s ≡ true) ↔ Keeps n s
by-action n s a = (λ e. keeps-action n s a (acting s e), λ k. of-acting s (k.flow (action-flow a), k.blockless (acts a)))

by-control : (n : ℕ) (s : Rung) → 19 ≤ n → n ≤ 23 → Flowless n → (both_empty s ≡ true) ↔ Keeps n s
by-control n s g h f = (λ e. keeps-control n s g h (empty s e) (λ q. absurd (q f)), λ k. of-empty s (k.control g h))

-- LD and LDI, of the contacts
is-load : (n : ℕ) → is_load n ≡ true → LDType n
is-load n e = three-way n (eqb n 1) (eqb n 2) refl refl e
  where
    three-way : (n : ℕ) (a b : Bool) → eqb n 1 ≡ a → eqb n 2 ≡ b → (a || b) ≡ true → LDType n
    three-way n true b p q e = let z : n ≡ 1 = eqb-true _ _ p in of_a_bit (omega arith) (omega arith)
    three-way n false true p q e = let z : n ≡ 2 = eqb-true _ _ q in of_a_bit (omega arith) (omega arith)
    three-way n false false p q e = differ (sym e)

no-load : (n : ℕ) → 1 ≤ n → is_load n ≡ false → 3 ≤ n
no-load n h e =
    let a = neither (eqb n 1) (eqb n 2) e in
    let p : n ≡ 1 → ⊥ = eqb-false _ _ a.0 in
    let q : n ≡ 2 → ⊥ = eqb-false _ _ a.1 in
    omega arith

by-contact : (n : ℕ) (s : Rung) → 1 ≤ n → n ≤ 6 → (pick (is_load n) (load_ok s) s.present ≡ true) ↔ Keeps n s
by-contact n s g h = go (is_load n) refl
  where
    go : (t : Bool) → is_load n ≡ t → (pick t (load_ok s) s.present ≡ true) ↔ Keeps n s
    go true e = by-load n s (is-load n e)
    go false e = let l : 3 ≤ n = no-load n g e in (λ p. keeps-contact n s l h p, λ k. k.flow (with-flow l (omega arith)))

branch-bare : (n : ℕ) → 9 ≤ n → n ≤ 11 → Blockless n
branch-bare n g h =
    elim (ℕ_discrete n 9) [
      | yes e ↦ is_MPS e
      | no d ↦ elim (ℕ_discrete n 10) [ yes e ↦ is_MRD e | no c ↦ is_MPP (omega arith) ]
    ]

branch-entry : (n : ℕ) (s : Rung) → 9 ≤ n → n ≤ 11 → (n ≡ 9 → ⊥) → Keeps n s → 0 < s.branches
branch-entry n s g h d k = elim (ℕ_discrete n 10) [ yes e ↦ omega (arith, k.entry e) | no c ↦ k.branch_there (omega arith) ]

-- 5, OF A RECORD: what the check computes is the rung rule in words
pub kept : (i : Instr) (s : Rung) → Formed i → (keeps i s ≡ true) ↔ Keeps (number_of i) s
unfolding keeps branch_ok
kept Nop s z = (λ _. keeps-nop s, λ _. refl)
kept (Contact n o) s z = by-contact n s z.0 z.1
kept (Compare n a b) s z = by-load n s (of_a_comparison z.0 z.1)
kept (Join n) s z = (
  λ e. let q = both s.present (ltb 0 s.blocks) e in keeps-join n s z.0 z.1 q.0 (ltb-true _ _ q.1),
  λ k. ap₂ ◌&&◌ (k.flow (with-flow (omega (arith, z.0)) (omega (arith, z.1)))) (lt-ltb _ _ (k.block_there z.0 z.1)),
)
kept (Branch n) s z = (
  λ e.
      let q = both (action_ok s) (pick (eqb n 9) (ltb s.branches 8) (ltb 0 s.branches)) e in
      keeps-branch n s z.0 z.1 (acting s q.0) (branching n s q.1),
  λ k.
      let g : 9 ≤ n = z.0 in
      let h : n ≤ 11 = z.1 in
      ap₂ ◌&&◌ (of-acting s (k.flow (with-flow (omega arith) (omega arith)), k.blockless (branch-bare n g h)))
      (of-branching n s (k.branch_room, λ d. branch-entry n s g h d k)),
)
kept (Coil n o) s z = by-action n s (from_12_to_14 z.0 z.1)
kept (Timer i c) s z = by-action 18 s (is_18 refl)
kept (For c) s z = by-control 19 s (omega arith) (omega arith) (is_FOR refl)
kept Next s z = by-control 20 s (omega arith) (omega arith) (is_NEXT refl)
kept (Jump l) s z = (
  λ e. let q = both s.present (both_empty s) e in keeps-control 21 s (omega arith) (omega arith) (empty s q.1) (λ _. q.0),
  λ k. ap₂ ◌&&◌ (k.flow jump-flow) (of-empty s (k.control (omega arith) (omega arith))),
)
kept (Label l) s z = by-control 22 s (omega arith) (omega arith) (is_LBL refl)
kept End s z = by-control 23 s (omega arith) (omega arith) (is_END refl)
kept (Word n a b t) s z = by-action n s (from_32 z)

-- ---- how flow and stacks go on

rung-path : (t : Rung) {a b : Bool} {c d : ℕ} → t.present ≡ a → t.action ≡ b → t.blocks ≡ c → t.branches ≡ d → t ≡ rung a b c d
rung-path t x y z w = λ i. record { present = x i; action = y i; blocks = z i; branches = w i }

goes-nop : (s t : Rung) → Goes_on 0 s t → t ≡ s
goes-nop s t g =
    rung-path t (g.as_before no-ld (λ a b. omega arith)) (g.passed_over refl) (g.same_blocks no-ld (λ a b. omega arith))
    (g.same_branches (λ e. omega arith) (λ e. omega arith))
  where
    no-ld : LDType 0 → ⊥
    no-ld l = ld l (λ a b. omega arith) (λ a b. omega arith)

goes_load : (n : ℕ) (s t : Rung) → LDType n → Goes_on n s t → t ≡ after_load s
unfolding after_load
goes_load n s t l g =
    rung-path t (g.made l) (g.no_action no-act (λ e. ld l (λ a b. omega arith) (λ a b. omega arith))) (go (starts s) refl)
    (g.same_branches (λ e. ld l (λ a b. omega arith) (λ a b. omega arith)) (λ e. ld l (λ a b. omega arith) (λ a b. omega arith)))
  where
    no-act : Action n → ⊥
    no-act x =
        ld l (λ a b. act x (λ p q. omega arith) (λ e. omega arith) (λ p. omega arith))
        (λ a b. act x (λ p q. omega arith) (λ e. omega arith) (λ p. omega arith))

    go : (b : Bool) → starts s ≡ b → t.blocks ≡ pick b s.blocks (s.blocks + 1)
    go true e = g.starts l (starting s e)
    go false e = g.pushes l (not-starting s e)

-- AND, ANI, OR, ORI, ANB, ORB, MPS, MRD and MPP: flow stays, and they are no action
module _ (n : ℕ) (s t : Rung) (a : 3 ≤ n) (b : n ≤ 11) (g : Goes_on n s t) where
  mid-ld : LDType n → ⊥
  mid-ld l = ld l (λ p q. omega arith) (λ p q. omega arith)

  mid-flow : t.present ≡ s.present
  mid-flow = g.as_before mid-ld (λ p q. omega arith)

  mid-action : t.action ≡ false
  mid-action = g.no_action (λ x. act x (λ p q. omega arith) (λ e. omega arith) (λ p. omega arith)) (λ e. omega arith)

  goes-contact : n ≤ 6 → t ≡ rung s.present false s.blocks s.branches
  goes-contact h =
      rung-path t mid-flow mid-action (g.same_blocks mid-ld (λ p q. omega arith)) (g.same_branches (λ e. omega arith) (λ e. omega arith))

  goes-join : 7 ≤ n → n ≤ 8 → t ≡ rung s.present false (s.blocks - 1) s.branches
  goes-join h k = rung-path t mid-flow mid-action (g.pops h k) (g.same_branches (λ e. omega arith) (λ e. omega arith))

  goes_branch : 9 ≤ n → t ≡ rung s.present false s.blocks (branches_after n s.branches)
  unfolding branches_after
  goes_branch h = rung-path t mid-flow mid-action (g.same_blocks mid-ld (λ p q. omega arith)) (go (eqb n 9) (eqb n 10) refl refl)
    where
      go : (x y : Bool) → eqb n 9 ≡ x → eqb n 10 ≡ y → t.branches ≡ pick x (s.branches + 1) (pick y s.branches (s.branches - 1))
      go true y p q = g.branches_off (eqb-true _ _ p)
      go false true p q = let e : n ≡ 10 = eqb-true _ _ q in g.same_branches (λ d. omega arith) (λ d. omega arith)
      go false false p q =
          let d : n ≡ 9 → ⊥ = eqb-false _ _ p in let e : n ≡ 10 → ⊥ = eqb-false _ _ q in g.returns (omega arith)

goes-action : (n : ℕ) (s t : Rung) → Action n → Goes_on n s t → t ≡ after_action s
goes-action n s t x g =
    rung-path t (g.as_before no-ld (λ p q. act x (λ a b. omega arith) (λ e. omega arith) (λ a. omega arith))) (g.action x)
    (g.same_blocks no-ld (λ p q. act x (λ a b. omega arith) (λ e. omega arith) (λ a. omega arith)))
    (g.same_branches (λ d. act x (λ a b. omega arith) (λ e. omega arith) (λ a. omega arith)) (λ d. act x (λ a b. omega arith) (λ e. omega arith) (λ a. omega arith)))
  where
    no-ld : LDType n → ⊥
    no-ld l =
        act x (λ a b. ld l (λ p q. omega arith) (λ p q. omega arith)) (λ e. ld l (λ p q. omega arith) (λ p q. omega arith))
        (λ a. ld l (λ p q. omega arith) (λ p q. omega arith))

goes-control : (n : ℕ) (s t : Rung) → 19 ≤ n → n ≤ 23 → Goes_on n s t → t ≡ no_flow s
goes-control n s t a b g =
    rung-path t (g.gone a b) (g.no_action (λ x. act x (λ p q. omega arith) (λ e. omega arith) (λ p. omega arith)) (λ e. omega arith))
    (g.same_blocks (λ l. ld l (λ p q. omega arith) (λ p q. omega arith)) (λ p q. omega arith))
    (g.same_branches (λ e. omega arith) (λ e. omega arith))

-- the state in words is the one that the check computes
pub goes : (i : Instr) (s t : Rung) → Formed i → Goes_on (number_of i) s t → t ≡ after_record i s
unfolding after_record
goes Nop s t z g = goes-nop s t g
goes (Contact n o) s t z g = go (is_load n) refl
  where
    go : (b : Bool) → is_load n ≡ b → t ≡ pick b (after_load s) (rung s.present false s.blocks s.branches)
    go true e = goes_load n s t (is-load n e) g
    go false e = let h : n ≤ 6 = z.1 in goes-contact n s t (no-load n z.0 e) (omega arith) g h
goes (Compare n a b) s t z g = goes_load n s t (of_a_comparison z.0 z.1) g
goes (Join n) s t z g = goes-join n s t (omega (arith, z.0)) (omega (arith, z.1)) g z.0 z.1
goes (Branch n) s t z g = goes_branch n s t (omega (arith, z.0)) (omega (arith, z.1)) g z.0
goes (Coil n o) s t z g = goes-action n s t (from_12_to_14 z.0 z.1) g
goes (Timer i c) s t z g = goes-action 18 s t (is_18 refl) g
goes (For c) s t z g = goes-control 19 s t (omega arith) (omega arith) g
goes Next s t z g = goes-control 20 s t (omega arith) (omega arith) g
goes (Jump l) s t z g = goes-control 21 s t (omega arith) (omega arith) g
goes (Label l) s t z g = goes-control 22 s t (omega arith) (omega arith) g
goes End s t z g = goes-control 23 s t (omega arith) (omega arith) g
goes (Word n a b c) s t z g = goes-action n s t (from_32 z) g

-- ---- and there is one after every instruction and state

control-dec : (n : ℕ) → Dec ((19 ≤ n) × (n ≤ 23))
control-dec n = elim (dec_le 19 n) [ yes a ↦ elim (dec_le n 23) [ yes b ↦ yes (a, b) | no b ↦ no (λ z. b z.1) ] | no a ↦ no (λ z. a z.0) ]

join-dec : (n : ℕ) → Dec ((7 ≤ n) × (n ≤ 8))
join-dec n = elim (dec_le 7 n) [ yes a ↦ elim (dec_le n 8) [ yes b ↦ yes (a, b) | no b ↦ no (λ z. b z.1) ] | no a ↦ no (λ z. a z.0) ]

starts_dec : (s : Rung) → Dec (Starts s)
starts_dec s = go (starts s) refl
  where
    go : (b : Bool) → starts s ≡ b → Dec (Starts s)
    go true e = yes (starting s e)
    go false e = no (not-starting s e)

module _ (n : ℕ) (s : Rung) where
  flow-after : (b : Bool) × (LDType n → b ≡ true) × (19 ≤ n → n ≤ 23 → b ≡ false)
      × ((LDType n → ⊥) → (19 ≤ n → n ≤ 23 → ⊥) → b ≡ s.present)
  flow-after =
      elim (ld-dec n) [
        | yes l ↦ (true, λ _. refl, λ p q. absurd (ld l (λ a b. omega arith) (λ a b. omega arith)), λ f _. absurd (f l))
        | no f ↦ elim (control-dec n) [
          | yes z ↦ (false, λ l. absurd (f l), λ _ _. refl, λ _ h. absurd (h z.0 z.1))
          | no z ↦ (s.present, λ l. absurd (f l), λ p q. absurd (z (p, q)), λ _ _. refl)
        ]
      ]

  action-after : (b : Bool) × (Action n → b ≡ true) × ((Action n → ⊥) → (n ≡ 0 → ⊥) → b ≡ false) × (n ≡ 0 → b ≡ s.action)
  action-after =
      elim (act-dec n) [
        | yes x ↦ (true, λ _. refl, λ f _. absurd (f x), λ e. absurd (act x (λ a b. omega arith) (λ a. omega arith) (λ a. omega arith)))
        | no f ↦ elim (ℕ_discrete n 0) [
          | yes e ↦ (s.action, λ x. absurd (f x), λ _ h. absurd (h e), λ _. refl)
          | no h ↦ (false, λ x. absurd (f x), λ _ _. refl, λ e. absurd (h e))
        ]
      ]

  blocks-after : (c : ℕ) × (LDType n → Starts s → c ≡ s.blocks) × (LDType n → (Starts s → ⊥) → c ≡ s.blocks + 1)
      × (7 ≤ n → n ≤ 8 → c ≡ s.blocks - 1)
      × ((LDType n → ⊥) → (7 ≤ n → n ≤ 8 → ⊥) → c ≡ s.blocks)
  blocks-after =
      elim (ld-dec n) [
        | yes l ↦ elim (starts_dec s) [
          | yes z ↦ (
            s.blocks,
            λ _ _. refl,
            λ _ h. absurd (h z),
            λ p q. absurd (ld l (λ a b. omega arith) (λ a b. omega arith)),
            λ f _. absurd (f l),
          )
          | no z ↦ (
            s.blocks + 1,
            λ _ h. absurd (z h),
            λ _ _. refl,
            λ p q. absurd (ld l (λ a b. omega arith) (λ a b. omega arith)),
            λ f _. absurd (f l),
          )
        ]
        | no f ↦ elim (join-dec n) [
          | yes z ↦ (s.blocks - 1, λ l _. absurd (f l), λ l _. absurd (f l), λ _ _. refl, λ _ h. absurd (h z.0 z.1))
          | no z ↦ (s.blocks, λ l _. absurd (f l), λ l _. absurd (f l), λ p q. absurd (z (p, q)), λ _ _. refl)
        ]
      ]

  branches-after : (c : ℕ) × (n ≡ 9 → c ≡ s.branches + 1) × (n ≡ 11 → c ≡ s.branches - 1)
      × ((n ≡ 9 → ⊥) → (n ≡ 11 → ⊥) → c ≡ s.branches)
  branches-after =
      elim (ℕ_discrete n 9) [
        | yes e ↦ (s.branches + 1, λ _. refl, λ d. absurd (omega arith), λ f _. absurd (f e))
        | no f ↦ elim (ℕ_discrete n 11) [
          | yes e ↦ (s.branches - 1, λ d. absurd (f d), λ _. refl, λ _ h. absurd (h e))
          | no h ↦ (s.branches, λ d. absurd (f d), λ d. absurd (h d), λ _ _. refl)
        ]
      ]

  some_after : (t : Rung) × Goes_on n s t
  some_after =
      let p = flow-after in
      let a = action-after in
      let b = blocks-after in
      let c = branches-after in (
        rung p.0 a.0 b.0 c.0,
        record {
          made = p.1;
          gone = p.2;
          as_before = p.3;
          action = a.1;
          no_action = a.2;
          passed_over = a.3;
          starts = b.1;
          pushes = b.2;
          pops = b.3;
          same_blocks = b.4;
          branches_off = c.1;
          returns = c.2;
          same_branches = c.3;
        },
      )

-- so the check's state after a record is the one in words
pub goes_to : (i : Instr) (s : Rung) → Formed i → Goes_on (number_of i) s (after_record i s)
goes_to i s z =
    let t = some_after (number_of i) s in
    subst (Goes_on (number_of i) s) (goes i s t.0 z t.1) t.1
