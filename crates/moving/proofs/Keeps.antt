-- What each instruction of a program keeps of the D table, a scan keeps: only word instructions write words.
use Prim.Native.Nat.{ℕ, zero, suc, ◌+◌, ◌-◌}
use mathlib.Core.Bool.{Bool}
use mathlib.Core.List.{List}
use mathlib.Core.Path.{◌≡◌, refl, ◌∙◌}
use lib.Dec.{eqb, ltb}
use lib.ListN.{get_or, length}
use lib.IntN.{ℤ}
use Rattle.ec20.specs.declared.Operand.{Operand}
use Rattle.ec20.specs.declared.Units.{Units}
use Rattle.ec20.specs.declared.Instr.{Instr}
use Rattle.ec20.specs.declared.Instr.TheVariants.{Nop, Contact, Compare, Join, Branch, Coil, Timer, For, Next, Jump, Label, End, Word}
use Rattle.ec20.specs.Devices.{Device, kind_y, kind_m}
use Rattle.ec20.specs.Numbers.{half}
use Rattle.ec20.specs.Operands.{kind_is}
use Rattle.ec20.specs.Code.{Program}
use Rattle.ec20.specs.Memory.{Memory, store_bit}
use Rattle.ec20.specs.Words.{compute_of, store_all}
use Rattle.ec20.specs.Flow.{is_on, coil_of}
use Rattle.ec20.specs.Timers.{timer_of}
use Rattle.ec20.specs.Step.{World, width_of, for_of, close_of, outcome_of, settle, word_of, exec_of, step_of}
use Rattle.ec20.specs.Scan.{Run, run_of, start_world, run_scan}
use Rattle.ec20.proofs.Tests.{picked}
use Rattle.moving.proofs.Store.{length-store-all}

module _ (Q : List ℤ → Type 0) where
  -- Q of the D table
  abbrev Of : Memory → Type 0
  Of c = Q c.d

  abbrev In : World → Type 0
  In w = Q w.mem.d

  -- whatever the instruction stores, Q of the table before it gives Q of the table after it
  abbrev pub Keeps : Instr → Type 0
  Keeps Nop = Unit {0}
  Keeps (Contact n o) = Unit {0}
  Keeps (Compare n a b) = Unit {0}
  Keeps (Join n) = Unit {0}
  Keeps (Branch n) = Unit {0}
  Keeps (Coil n o) = Unit {0}
  Keeps (Timer i c) = Unit {0}
  Keeps (For c) = Unit {0}
  Keeps Next = Unit {0}
  Keeps (Jump l) = Unit {0}
  Keeps (Label l) = Unit {0}
  Keeps End = Unit {0}
  Keeps (Word n a b t) = (x y : ℤ) (c : Memory) → Q c.d → Q (store_all (width_of n) t (compute_of n (half (width_of n)) x y) c).d

  coil-keeps : (n : ℕ) (o : Operand) (on : Bool) (c : Memory) → Q c.d → Q (coil_of n o on c).d
  unfolding coil_of store_bit
  coil-keeps n o on c h =
      let bit : (b : ℕ) → Of (store_bit o b c) = λ b. picked Of (kind_is kind_y o) _ _ (λ _. h) (λ _. picked Of (kind_is kind_m o) _ _ (λ _. h) (λ _. h)) in
      picked Of (eqb n 12) _ _ (λ _. bit _) (λ _. picked Of on _ _ (λ _. bit _) (λ _. h))

  word_keeps : (n : ℕ) (a b t : Operand) (w : World) → Keeps (Word n a b t) → Q w.mem.d → Q (word_of n a b t w).mem.d
  unfolding word_of settle outcome_of
  word_keeps n a b t w k h =
      picked In (is_on w.st) _ _
      (λ _. picked In (eqb (outcome_of n a b w.mem).error 0) _ _ (λ _. k _ _ w.mem h) (λ _. h))
      (λ _. h)

  -- one instruction
  pub exec_keeps : (p : Program) (u : Units) (i : Instr) (w : World) → Keeps i → Q w.mem.d → Q (exec_of p u i w).mem.d
  unfolding exec_of for_of close_of timer_of
  exec_keeps p u Nop w k h = h
  exec_keeps p u (Contact n o) w k h = h
  exec_keeps p u (Compare n a b) w k h = h
  exec_keeps p u (Join n) w k h = h
  exec_keeps p u (Branch n) w k h = h
  exec_keeps p u (Coil n o) w k h = coil-keeps n o (is_on w.st) w.mem h
  exec_keeps p u (Timer i c) w k h = h
  exec_keeps p u (For c) w k h = picked In (eqb c 0) _ _ (λ _. h) (λ _. picked In (ltb w.st.depth 8) _ _ (λ _. h) (λ _. h))
  exec_keeps p u Next w k h = picked In (ltb 1 (get_or w.loops.left (w.st.depth - 1) 0)) _ _ (λ _. h) (λ _. h)
  exec_keeps p u (Jump l) w k h = h
  exec_keeps p u (Label l) w k h = h
  exec_keeps p u End w k h = h
  exec_keeps p u (Word n a b t) w k h = word_keeps n a b t w k h

  module _ (p : Program) (u : Units) (keeps : (k : ℕ) → Keeps (p.code k)) where
    pub step_keeps : (w : World) → Q w.mem.d → Q (step_of p u w).mem.d
    unfolding step_of
    step_keeps w h = exec_keeps p u (p.code w.st.pc) w (keeps w.st.pc) h

    run-keeps : (n k : ℕ) (w : World) → Q w.mem.d → Q (run_of p u n k w).after.mem.d
    unfolding run_of
    run-keeps zero k w h = h
    run-keeps (suc n) k w h =
        picked (λ (r : Run). In r.after) (eqb w.st.ended 0) _ _ (λ _. run-keeps n (k + 1) (step_of p u w) (step_keeps w h)) (λ _. h)

    -- KEEPS: after the scan as before it
    pub scan-keeps : (v : Device) (budget : ℕ) (c : Memory) → Q c.d → Q (run_scan v p u budget c).mem.d
    unfolding run_scan
    scan-keeps v budget c h = run-keeps budget 0 (start_world v c) (picked Of v.wakes _ _ (λ _. h) (λ _. h))

-- each instruction keeps the length of the D table
pub length-kept : (m : ℕ) (i : Instr) → Keeps (λ (l : List ℤ). length l ≡ m) i
length-kept m Nop = tt
length-kept m (Contact n o) = tt
length-kept m (Compare n a b) = tt
length-kept m (Join n) = tt
length-kept m (Branch n) = tt
length-kept m (Coil n o) = tt
length-kept m (Timer i c) = tt
length-kept m (For c) = tt
length-kept m Next = tt
length-kept m (Jump l) = tt
length-kept m (Label l) = tt
length-kept m End = tt
length-kept m (Word n a b t) = λ x y c h. length-store-all (width_of n) t (compute_of n (half (width_of n)) x y) c ∙ h

pub length-step : (p : Program) (u : Units) (w : World) → length (step_of p u w).mem.d ≡ length w.mem.d
length-step p u w = step_keeps (λ (l : List ℤ). length l ≡ length w.mem.d) p u (λ k. length-kept _ (p.code k)) w refl

pub length-scan : (v : Device) (p : Program) (u : Units) (budget : ℕ) (c : Memory) → length (run_scan v p u budget c).mem.d ≡ length c.d
length-scan v p u budget c = scan-keeps (λ (l : List ℤ). length l ≡ length c.d) p u (λ k. length-kept _ (p.code k)) v budget c refl
