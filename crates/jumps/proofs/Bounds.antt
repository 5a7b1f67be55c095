-- A scan's state stays in bounds, whatever the program: Sane holds at the start and after every step. Assumes nothing.
use Prim.Native.Nat.{ℕ, ◌+◌, ◌-◌, ◌<◌, ◌≤◌}
use mathlib.Core.Path.{◌≡◌, refl, ap, ◌∙◌}
use native.Mathlib.Decide.{dec_lt}
use native.Mathlib.Omega.{arith}
use lib.Dec.{eqb, ltb}
use lib.ListN.{get_or, length, length-set, replicate}
use borrow.Author.Tests.{ltb-true}
use Rattle.bound.proofs.Onward.{Ahead, ahead, acted-on, contact-on, compare-on, join-on, branch-on, word_on}
use Rattle.ec20.proofs.Tests.{picked}
use Rattle.ec20.specs.Code.{Program}
use Rattle.ec20.specs.Control.{controls_of, next_of_for, first_label, or_past}
use Rattle.ec20.specs.Flow.{is_on, gone}
use Rattle.ec20.specs.Memory.{Memory}
use Rattle.ec20.specs.Scan.{start_state}
use Rattle.ec20.specs.Step.{World, open_loops, world, going, for_of, close_of, jump_of, exec_of, step_of}
use Rattle.ec20.specs.declared.Units.{Units}
use Rattle.ec20.specs.declared.Instr.{Instr}
use Rattle.ec20.specs.declared.Instr.TheVariants.{Nop, Contact, Compare, Join, Branch, Coil, Timer, For, Next, Jump, Label, End, Word}
use Rattle.jumps.proofs.Tables.{zeros, put-most}
use Rattle.jumps.proofs.Within.{next-in, label-in}
use Rattle.jumps.specs.Sane.{Sane}

module _ (p : Program) where
  pub sane-start : (c : Memory) → Sane p (world c (open_loops (replicate 8 0) (replicate 8 0)) start_state)
  sane-start c = record { due = omega arith; room = omega arith; passes = refl; places = refl; backs = λ j. omega (arith, zeros 8 j) }

  -- what goes on to the next record
  on-sane : (w u : World) → Ahead w u → w.st.pc < p.count → Sane p w → Sane p u
  on-sane w u a h s =
      record {
        due = omega (arith, a.st.pc);
        room = omega (arith, a.st.depth, s.room);
        passes = ap length a.left ∙ s.passes;
        places = ap length a.back ∙ s.places;
        backs = λ j. rw a.back (s.backs j);
      }

  -- what goes to a record, with so many loops open
  gone-sane : (w : World) (k d : ℕ) → k ≤ p.count + 1 → d ≤ 8 → Sane p w → Sane p (going w w.mem (gone w.st k d))
  gone-sane w k d h r s = record { due = h; room = r; passes = s.passes; places = s.places; backs = s.backs }

  for-sane : (w : World) (n : ℕ) → w.st.pc < p.count → Sane p w → Sane p (for_of p n w)
  unfolding for_of
  for-sane w n h s =
      let past : or_past p.count (next_of_for (controls_of p) p.count w.st.pc) ≤ p.count = next-in (controls_of p) p.count w.st.pc in
      picked (Sane p) (eqb n 0) _ _
      (λ _. gone-sane w _ _ (omega arith) s.room s)
      (λ _.
      picked (Sane p) (ltb w.st.depth 8) _ _
      (λ t.
      let room : w.st.depth < 8 = ltb-true _ _ t in
      record {
        due = omega arith;
        room = omega arith;
        passes = simp length-set s.passes;
        places = simp length-set s.places;
        backs = λ j. put-most w.loops.back w.st.depth (w.st.pc + 1) j (p.count + 1) s.backs (omega arith);
      })
      (λ _. gone-sane w _ _ (omega arith) s.room s))

  close-sane : (w : World) → w.st.pc < p.count → Sane p w → Sane p (close_of w)
  unfolding close_of
  close-sane w h s =
      picked (Sane p) (ltb 1 (get_or w.loops.left (w.st.depth - 1) 0)) _ _
      (λ _.
      record {
        due = s.backs (w.st.depth - 1);
        room = s.room;
        passes = simp length-set s.passes;
        places = s.places;
        backs = s.backs;
      })
      (λ _. gone-sane w _ _ (omega arith) (omega (arith, s.room)) s)

  jump-sane : (w : World) (l : ℕ) → w.st.pc < p.count → Sane p w → Sane p (going w w.mem (jump_of p l w.st))
  unfolding jump_of
  jump-sane w l h s =
      let place : or_past p.count (first_label (controls_of p) p.count l) ≤ p.count = label-in (controls_of p) p.count l in
      gone-sane w _ _ (picked (λ (k : ℕ). k ≤ p.count + 1) (is_on w.st) _ _ (λ _. omega arith) (λ _. omega arith)) s.room s

  -- each instruction, in the program
  exec-sane : (e : Units) (w : World) (i : Instr) → w.st.pc < p.count → Sane p w → Sane p (exec_of p e i w)
  unfolding exec_of
  exec-sane e w Nop h s = on-sane w _ (ahead w _ _ (record { pc = refl; depth = refl; ended = refl })) h s
  exec-sane e w (Contact n o) h s = on-sane w _ (ahead w _ _ (contact-on n _ w.st)) h s
  exec-sane e w (Compare n a b) h s = on-sane w _ (ahead w _ _ (compare-on n _ _ w.st)) h s
  exec-sane e w (Join n) h s = on-sane w _ (ahead w _ _ (join-on n w.st)) h s
  exec-sane e w (Branch n) h s = on-sane w _ (ahead w _ _ (branch-on n w.st)) h s
  exec-sane e w (Coil n o) h s = on-sane w _ (ahead w _ _ (acted-on w.st)) h s
  exec-sane e w (Timer i c) h s = on-sane w _ (ahead w _ _ (acted-on w.st)) h s
  exec-sane e w (For c) h s = for-sane w c h s
  exec-sane e w Next h s = close-sane w h s
  exec-sane e w (Jump l) h s = jump-sane w l h s
  exec-sane e w (Label l) h s = gone-sane w _ _ (omega arith) s.room s
  exec-sane e w End h s = record { due = s.due; room = s.room; passes = s.passes; places = s.places; backs = s.backs }
  exec-sane e w (Word n a b t) h s = on-sane w _ (word_on n a b t w) h s

  -- END, in the program or past it
  end-sane : (e : Units) (w : World) (i : Instr) → i ≡ End → Sane p w → Sane p (exec_of p e i w)
  unfolding exec_of
  end-sane e w i q s = rw q (record { due = s.due; room = s.room; passes = s.passes; places = s.places; backs = s.backs })

  pub sane-step : ((k : ℕ) → p.count ≤ k → p.code k ≡ End) → (e : Units) (w : World) → Sane p w → Sane p (step_of p e w)
  unfolding step_of
  sane-step q e w s =
      elim (dec_lt w.st.pc p.count) [
        | yes h ↦ exec-sane e w (p.code w.st.pc) h s
        | no h ↦ end-sane e w (p.code w.st.pc) (q w.st.pc (omega arith)) s
      ]
