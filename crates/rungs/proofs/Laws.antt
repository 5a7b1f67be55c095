-- One turn of a loop that judges records in a state, and that the state stays within the stacks. Assumes nothing.
use borrow.Author.Tests.{ltb-true}
use lib.Dec.{ltb, eqb}
use mathlib.Core.Bool.{Bool, true, false, not, ◌&&◌}
use mathlib.Core.Path.{◌≡◌, sym, ap, ◌∙◌}
use native.Mathlib.Numerals.{add-one}
use native.Mathlib.Omega.{arith}
use Prim.Native.Nat.{ℕ, suc, ◌+◌, ◌-◌, ◌<◌, ◌≤◌}
use Rattle.ec20.specs.Basics.{pick}
use Rattle.ec20.specs.declared.Instr.TheVariants.{Nop, Contact, Compare, Join, Branch, Coil, Timer, For, Next, Jump, Label, End, Word}
use Rattle.ec20.specs.declared.Instr.{Instr}
use Rattle.ec20.specs.Judged.{Fine, Fault}
use Rattle.ec20.specs.declared.Rung.{Rung}
use Rattle.ec20.specs.Rung.{rung, is_load, starts, both_empty, load_ok, action_ok, branch_ok, keeps, after_load, branches_after, after_record, broken_from}
use Rattle.rungs.specs.Within.{Within}

-- what comes from record i on, in the state s
module _ (code : ℕ → Instr) (s : Rung) (i n : ℕ) where
  step :
      i < n
      → broken_from code s i (n - i) ≡ pick (keeps (code i) s) (broken_from code (after_record (code i) s) (i + 1) (n - (i + 1))) (Fault 5 i)
  unfolding broken_from
  step h = let e : n - i ≡ suc (n - (i + 1)) = omega arith in rw (e, add-one)

  -- record i keeps the rule: on to the next, in the state after it
  pub turn :
      {x : Instr} {b : Bool} {t : Rung}
      → i < n
      → x ≡ code i
      → b ≡ keeps x s
      → b ≡ true
      → t ≡ after_record x s
      → broken_from code s i (n - i) ≡ broken_from code t (i + 1) (n - (i + 1))
  turn h q e g a =
      let o : keeps (code i) s ≡ true = sym (rw q at e) ∙ g in
      step h ∙ rw (o, ← q, ← a)

  -- record i breaks it: that is the answer
  pub broke : {x : Instr} {b : Bool} → i < n → x ≡ code i → b ≡ keeps x s → b ≡ false → Fault 5 i ≡ broken_from code s i (n - i)
  broke h q e g = let o : keeps (code i) s ≡ false = sym (rw q at e) ∙ g in sym (step h ∙ rw o)

  -- no record is left
  pub done : n ≤ i → Fine ≡ broken_from code s i (n - i)
  unfolding broken_from
  done h = let e : n - i ≡ 0 = omega arith in rw e

-- a test of `not b` tells b
pub turned : (b c : Bool) → not b ≡ c → b ≡ not c
turned true c h = ap not h
turned false c h = ap not h

and_right : (a b : Bool) → a && b ≡ true → b ≡ true
and_right true b h = h
and_right false b h = cc

load-blocks : (b e : Bool) (n : ℕ) → n ≤ 8 → pick b e (ltb n 8) ≡ true → pick b n (n + 1) ≤ 8
load-blocks true e n h k = h
load-blocks false e n h k = omega (arith, ltb-true n 8 k)

load-within : (s : Rung) → Within s → load_ok s ≡ true → Within (after_load s)
unfolding load_ok after_load
load-within s w k = record { blocks = load-blocks (starts s) (both_empty s) s.blocks w.blocks k; branches = w.branches }

contact-within : (b : Bool) (s : Rung) → Within s → pick b (load_ok s) s.present ≡ true → Within (pick b (after_load s) (rung s.present false s.blocks s.branches))
contact-within true s w k = load-within s w k
contact-within false s w k = record { blocks = w.blocks; branches = w.branches }

branch-count : (b c : Bool) (m : ℕ) → m ≤ 8 → pick b (ltb m 8) (ltb 0 m) ≡ true → pick b (m + 1) (pick c m (m - 1)) ≤ 8
branch-count true c m h k = omega (arith, ltb-true m 8 k)
branch-count false true m h k = h
branch-count false false m h k = omega arith

-- "No stack over- or underflows"
pub stays : (i : Instr) (s : Rung) → Within s → keeps i s ≡ true → Within (after_record i s)
unfolding keeps after_record branch_ok branches_after
stays Nop s w k = w
stays (Contact n o) s w k = contact-within (is_load n) s w k
stays (Compare n a b) s w k = load-within s w k
stays (Join n) s w k = record { blocks = omega arith; branches = w.branches }
stays (Branch n) s w k = record { blocks = w.blocks; branches = branch-count (eqb n 9) (eqb n 10) s.branches w.branches (and_right (action_ok s) _ k) }
stays (Coil n o) s w k = record { blocks = w.blocks; branches = w.branches }
stays (Timer i c) s w k = record { blocks = w.blocks; branches = w.branches }
stays (For c) s w k = record { blocks = w.blocks; branches = w.branches }
stays Next s w k = record { blocks = w.blocks; branches = w.branches }
stays (Jump c) s w k = record { blocks = w.blocks; branches = w.branches }
stays (Label c) s w k = record { blocks = w.blocks; branches = w.branches }
stays End s w k = record { blocks = w.blocks; branches = w.branches }
stays (Word n a b t) s w k = record { blocks = w.blocks; branches = w.branches }

-- the same of the state that the code holds
pub within-after : (i : Instr) (s : Rung) {t : Rung} {b : Bool} → Within s → b ≡ keeps i s → b ≡ true → t ≡ after_record i s → Within t
within-after i s w e g a = rw a (stays i s w (sym e ∙ g))
