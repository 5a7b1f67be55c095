-- One instruction: renamed, on the exchanged table, it does as the old one on the table.
use Prim.Native.Nat.{ℕ, ◌+◌, ◌-◌, ◌*◌, ◌≤◌}
use mathlib.Core.Bool.{Bool}
use mathlib.Core.Path.{◌≡◌, refl, ap, subst, fun_ext, ◌∙◌}
use native.Mathlib.Omega.{arith}
use lib.Dec.{eqb, ltb}
use lib.ListN.{get_or, length}
use Rattle.ec20.specs.declared.Operand.{Operand}
use Rattle.ec20.specs.declared.Outcome.{Outcome}
use Rattle.ec20.specs.declared.Units.{Units}
use Rattle.ec20.specs.declared.Instr.{Instr}
use Rattle.ec20.specs.declared.Instr.TheVariants.{Nop, Contact, Compare, Join, Branch, Coil, Timer, For, Next, Jump, Label, End, Word}
use Rattle.ec20.specs.Basics.{pick, one_if}
use Rattle.ec20.specs.Devices.{kind_y, kind_m}
use Rattle.ec20.specs.Operands.{kind_is}
use Rattle.ec20.specs.Code.{Program}
use Rattle.ec20.specs.Control.{Controls, control_of, controls_of, next_of_for, first_label, or_past}
use Rattle.ec20.specs.Memory.{Memory, bits_of, load_bit, store_bit, load_of}
use Rattle.ec20.specs.Flow.{is_on, gone, acted, compare_of, coil_of}
use Rattle.ec20.specs.Timers.{timer_of}
use Rattle.ec20.specs.Step.{World, going, width_of, for_of, close_of, jump_of, outcome_of, settle, word_of, exec_of}
use Rattle.moving.specs.Rename.{Swap, rename_operand, rename_instr, rename_program, ex_memory, ex_world, Along, words_of, Whole}
use Rattle.moving.proofs.Load.{load-sim, along_one}
use Rattle.moving.proofs.Operand.{pick-sim}
use Rattle.moving.proofs.Store.{store-all-sim}
use Rattle.moving.proofs.Outcome.{written_one, written-two}

-- loops and jumps see no D number
control-same : (σ : ℕ → ℕ) (i : Instr) → control_of (rename_instr σ i) ≡ control_of i
unfolding control_of rename_instr
control-same σ Nop = refl
control-same σ (Contact n o) = refl
control-same σ (Compare n a b) = refl
control-same σ (Join n) = refl
control-same σ (Branch n) = refl
control-same σ (Coil n o) = refl
control-same σ (Timer i c) = refl
control-same σ (For c) = refl
control-same σ Next = refl
control-same σ (Jump l) = refl
control-same σ (Label l) = refl
control-same σ End = refl
control-same σ (Word n a b t) = refl

pub controls-same : (σ : ℕ → ℕ) (p : Program) → controls_of (rename_program σ p) ≡ controls_of p
controls-same σ p = fun_ext (λ k. control-same σ (p.code k))

-- a bit stored touches no word of D
bit-sim : (σ : ℕ → ℕ) (o : Operand) (b : ℕ) (c : Memory) → store_bit o b (ex_memory σ c) ≡ ex_memory σ (store_bit o b c)
unfolding store_bit
bit-sim σ o b c =
    pick-sim (ex_memory σ) (kind_is kind_y o) _ _ _ _ (λ _. refl) (λ _. pick-sim (ex_memory σ) (kind_is kind_m o) _ _ _ _ (λ _. refl) (λ _. refl))

module _ (σ : ℕ → ℕ) where
  coil-sim : (n : ℕ) (o : Operand) (on : Bool) (c : Memory) → coil_of n o on (ex_memory σ c) ≡ ex_memory σ (coil_of n o on c)
  unfolding coil_of
  coil-sim n o on c =
      pick-sim (ex_memory σ) (eqb n 12) _ _ _ _
      (λ _. bit-sim σ o (one_if on) c)
      (λ _. pick-sim (ex_memory σ) on _ _ _ _ (λ _. bit-sim σ o (one_if (eqb n 13)) c) (λ _. refl))

  -- FOR, NEXT and CJ
  for-sim : (p : Program) (c : ℕ) (w : World) → for_of (rename_program σ p) c (ex_world σ w) ≡ ex_world σ (for_of p c w)
  unfolding for_of
  for-sim p c w =
      pick-sim (ex_world σ) (eqb c 0) _ _ _ _
      (λ _.
      ap (λ (k : Controls). going (ex_world σ w) (ex_memory σ w.mem) (gone w.st (or_past p.count (next_of_for k p.count w.st.pc) + 1) w.st.depth))
      (controls-same σ p))
      (λ _. pick-sim (ex_world σ) (ltb w.st.depth 8) _ _ _ _ (λ _. refl) (λ _. refl))

  close-sim : (w : World) → close_of (ex_world σ w) ≡ ex_world σ (close_of w)
  unfolding close_of
  close-sim w = pick-sim (ex_world σ) (ltb 1 (get_or w.loops.left (w.st.depth - 1) 0)) _ _ _ _ (λ _. refl) (λ _. refl)

  jump-sim : (p : Program) (l : ℕ) (w : World)
      → going (ex_world σ w) (ex_memory σ w.mem) (jump_of (rename_program σ p) l w.st) ≡ ex_world σ (going w w.mem (jump_of p l w.st))
  unfolding jump_of
  jump-sim p l w =
      ap (λ (k : Controls). going (ex_world σ w) (ex_memory σ w.mem) (gone w.st (pick (is_on w.st) (or_past p.count (first_label k p.count l)) (w.st.pc + 1)) w.st.depth))
      (controls-same σ p)

  -- of fewer words too
  along-less : (d e : ℕ) (o : Operand) → d ≤ e → Along σ e o → Along σ d o
  unfolding Along
  along-less d e o h a k j l = a k j (omega arith)

  outcome-sim : (n : ℕ) (a b : Operand) (c : Memory) → Along σ (words_of (width_of n)) a → Along σ (words_of (width_of n)) b → Swap σ (length c.d)
      → outcome_of n (rename_operand σ a) (rename_operand σ b) (ex_memory σ c) ≡ outcome_of n a b c
  unfolding outcome_of
  outcome-sim n a b c x y h = rw (load-sim σ (width_of n) a c x h, load-sim σ (width_of n) b c y h)

  settle-sim : (n : ℕ) (t : Operand) (r : Outcome) (w : World) → Along σ (words_of (width_of n)) t → (r.two ≡ 1 → Along σ (2 * words_of (width_of n)) t)
      → Swap σ (length w.mem.d) → settle n (rename_operand σ t) r (ex_world σ w) ≡ ex_world σ (settle n t r w)
  unfolding settle
  settle-sim n t r w x y h =
      pick-sim (ex_world σ) (eqb r.error 0) _ _ _ _
      (λ _. ap (λ (c : Memory). going w c (acted w.st)) (store-all-sim σ (width_of n) t r w.mem x y h))
      (λ _. refl)

  -- a word instruction whose extents go along
  word-sim : (n : ℕ) (a b t : Operand) (w : World) → Whole σ (Word n a b t) → Swap σ (length w.mem.d)
      → word_of n (rename_operand σ a) (rename_operand σ b) (rename_operand σ t) (ex_world σ w) ≡ ex_world σ (word_of n a b t w)
  unfolding word_of Whole outcome_of
  word-sim n a b t w o h =
      pick-sim (ex_world σ) (is_on w.st) _ _ _ _
      (λ _.
      ap (λ (r : Outcome). settle n (rename_operand σ t) r (ex_world σ w)) (outcome-sim n a b w.mem o.0 o.1 h)
      ∙ settle-sim n t (outcome_of n a b w.mem) w (along-less _ _ t (written_one n) o.2)
      (λ q. subst (λ (k : ℕ). Along σ k t) (written-two n _ _ _ q) o.2) h)
      (λ _. refl)

  compare-sim : (n : ℕ) (a b : Operand) (w : World) → Swap σ (length w.mem.d)
      → going (ex_world σ w) (ex_memory σ w.mem) (compare_of n (load_of 16 (rename_operand σ a) (ex_memory σ w.mem)) (load_of 16 (rename_operand σ b) (ex_memory σ w.mem)) w.st)
      ≡ ex_world σ (going w w.mem (compare_of n (load_of 16 a w.mem) (load_of 16 b w.mem) w.st))
  compare-sim n a b w h = rw (load-sim σ 16 a w.mem (along_one σ a) h, load-sim σ 16 b w.mem (along_one σ b) h)

  -- EXEC: the renamed instruction on the exchanged table does what the instruction does, and the table is then exchanged
  pub exec-sim : (p : Program) (u : Units) (i : Instr) (w : World) → Whole σ i → Swap σ (length w.mem.d)
      → exec_of (rename_program σ p) u (rename_instr σ i) (ex_world σ w) ≡ ex_world σ (exec_of p u i w)
  unfolding exec_of rename_instr load_bit bits_of timer_of
  exec-sim p u Nop w o h = refl
  exec-sim p u (Contact n a) w o h = refl
  exec-sim p u (Compare n a b) w o h = compare-sim n a b w h
  exec-sim p u (Join n) w o h = refl
  exec-sim p u (Branch n) w o h = refl
  exec-sim p u (Coil n a) w o h = ap (λ (c : Memory). going w c (acted w.st)) (coil-sim n a (is_on w.st) w.mem)
  exec-sim p u (Timer i c) w o h = refl
  exec-sim p u (For c) w o h = for-sim p c w
  exec-sim p u Next w o h = close-sim w
  exec-sim p u (Jump l) w o h = jump-sim p l w
  exec-sim p u (Label l) w o h = refl
  exec-sim p u End w o h = refl
  exec-sim p u (Word n a b t) w o h = word-sim n a b t w o h
