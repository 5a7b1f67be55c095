-- The machine of the scope goes as the small one goes, wherever that is safe.
use Prim.Native.Nat.{ℕ, zero, suc, ◌+◌, ◌-◌, ◌<◌, ◌≤◌}
use mathlib.Core.Bool.{Bool, true, false}
use mathlib.Core.Path.{◌≡◌, refl, ap, ◌∙◌}
use native.Mathlib.Omega.{arith}
use lib.ListN.{get_or, length, length-set}
use lib.Dec.{eqb, ltb}
use borrow.Author.Tests.{lt-ltb}
use Rattle.ec20.specs.declared.Instr.{Instr}
use Rattle.ec20.specs.declared.Instr.TheVariants.{Nop, Contact, Compare, Join, Branch, Coil, Timer, For, Next, Jump, Label, End, Word}
use Rattle.ec20.specs.Basics.{pick}
use Rattle.ec20.specs.declared.Units.{Units}
use Rattle.ec20.specs.Code.{Program}
use Rattle.ec20.specs.Control.{Controls, control_of, controls_of, first_label}
use Rattle.ec20.specs.Flow.{is_on, gone}
use Rattle.ec20.specs.Step.{World, going, for_of, close_of, jump_of, exec_of, step_of}
use Rattle.bound.specs.Small.{goto, to_found, past_found, open_of, pass_of, done_of, move_on, loops_of, control}
use Rattle.bound.specs.Safe.{Enters, Lands, Due, Safe}
use Rattle.ec20.proofs.Tests.{picked}
use Rattle.bound.proofs.Stack.{length-loops, opened, passed}
use Rattle.bound.proofs.Onward.{Ahead, ahead, contact-on, compare-on, join-on, branch-on, word_on}

-- the tables of loops have eight entries each
abbrev pub Eights : World → Type 0
Eights w = (length w.loops.left ≡ 8) × (length w.loops.back ≡ 8)

-- what goes on to the next record
on_same : (w u : World) → Ahead w u → control u ≡ goto (control w) (w.st.pc + 1)
on_same w u a = rw (a.left, a.back, a.st.pc, a.st.depth, a.st.ended)

on-eights : (w u : World) → Ahead w u → Eights w → Eights u
on-eights w u a e = (ap length a.left ∙ e.0, ap length a.back ∙ e.1)

-- what is picked is the same
both : {A B : Type 0} (f : A → B) (t : Bool) (x y : A) (x' y' : B) → (t ≡ true → f x ≡ x') → (t ≡ false → f y ≡ y')
    → f (pick t x y) ≡ pick t x' y'
both f true x y x' y' g h = g refl
both f false x y x' y' g h = h refl

module _ (p : Program) where
  abbrev code : Controls
  code = controls_of p

  -- FOR
  for-same : (w : World) (n : ℕ) → Eights w → Enters code p.count w.st.pc w.st.depth
      → control (for_of p n w) ≡ open_of code p.count n (control w)
  unfolding for_of open_of past_found
  for-same w n e u =
      let d : w.st.depth < 8 = u.room in
      let l : length (loops_of w.st.depth w.loops.left w.loops.back) ≡ w.st.depth = length-loops w.st.depth w.loops.left w.loops.back in
      let o = opened w.st.depth n (w.st.pc + 1) w.loops.left w.loops.back (omega arith) (omega arith) in
      both control (eqb n 0) _ _ _ _ (λ _. rw u.found) (λ _. rw (l, lt-ltb w.st.depth 8 d, o))

  -- NEXT
  next-same : (w : World) → Eights w → w.st.depth ≤ 8 → 0 < w.st.depth → control (close_of w) ≡ pass_of (control w).loops (control w)
  unfolding close_of pass_of loops_of
  next-same w e r u = go w.st.depth refl
    where
      go : (d : ℕ) → w.st.depth ≡ d → control (close_of w) ≡ pass_of (loops_of w.st.depth w.loops.left w.loops.back) (control w)
      go zero q = absurd (omega arith)
      go (suc d) q =
          let i : suc d - 1 ≡ d = omega arith in
          let o = passed d (get_or w.loops.left d 0 - 1) w.loops.left w.loops.back (omega arith) in
          rw (q, i) (both control (ltb 1 (get_or w.loops.left d 0)) _ _ _ _ (λ _. rw o) (λ _. refl))

  -- CJ
  jump-same : (w : World) (l : ℕ) → Lands code p.count w.st.pc l
      → control (going w w.mem (jump_of p l w.st))
      ≡ pick (is_on w.st) (to_found (first_label code p.count l) (control w)) (goto (control w) (w.st.pc + 1))
  unfolding jump_of to_found
  jump-same w l u =
      both (λ (k : ℕ). control (going w w.mem (gone w.st k w.st.depth))) (is_on w.st) _ _ _ _
      (λ _. rw u.stands.first)
      (λ _. refl)

  -- each instruction, by what it is to loops and jumps
  exec-same : (e : Units) (w : World) (i : Instr) → Eights w → w.st.depth ≤ 8 → Due code p.count w.st.pc w.st.depth (control_of i)
      → control (exec_of p e i w) ≡ done_of code p.count (is_on w.st) (control w) (control_of i)
  unfolding exec_of done_of control_of
  exec-same e w Nop x r u = refl
  exec-same e w (Contact n o) x r u = on_same w _ (ahead w w.mem _ (contact-on n _ w.st))
  exec-same e w (Compare n a b) x r u = on_same w _ (ahead w w.mem _ (compare-on n _ _ w.st))
  exec-same e w (Join n) x r u = on_same w _ (ahead w w.mem _ (join-on n w.st))
  exec-same e w (Branch n) x r u = on_same w _ (ahead w w.mem _ (branch-on n w.st))
  exec-same e w (Coil n o) x r u = refl
  exec-same e w (Timer i c) x r u = refl
  exec-same e w (For c) x r u = for-same w c x u
  exec-same e w Next x r u = next-same w x r u
  exec-same e w (Jump l) x r u = jump-same w l u
  exec-same e w (Label l) x r u = refl
  exec-same e w End x r u = refl
  exec-same e w (Word n a b t) x r u = on_same w _ (word_on n a b t w)

  exec-eights : (e : Units) (w : World) (i : Instr) → Eights w → Eights (exec_of p e i w)
  unfolding exec_of for_of close_of
  exec-eights e w Nop x = x
  exec-eights e w (Contact n o) x = x
  exec-eights e w (Compare n a b) x = x
  exec-eights e w (Join n) x = x
  exec-eights e w (Branch n) x = x
  exec-eights e w (Coil n o) x = x
  exec-eights e w (Timer i c) x = x
  exec-eights e w (For c) x =
      picked Eights (eqb c 0) _ _
      (λ _. x)
      (λ _. picked Eights (ltb w.st.depth 8) _ _ (λ _. (simp length-set x.0, simp length-set x.1)) (λ _. x))
  exec-eights e w Next x = picked Eights (ltb 1 (get_or w.loops.left (w.st.depth - 1) 0)) _ _ (λ _. (simp length-set x.0, x.1)) (λ _. x)
  exec-eights e w (Jump l) x = x
  exec-eights e w (Label l) x = x
  exec-eights e w End x = x
  exec-eights e w (Word n a b t) x = on-eights w _ (word_on n a b t w) x

  -- THE STEP: seen as loops and jumps, a step where what is due is safe is a step of the small machine, with the flow that there is
  pub step_same : (e : Units) (w : World) → Safe p w → control (step_of p e w) ≡ move_on code p.count (is_on w.st) (control w)
  unfolding step_of move_on
  step_same e w s =
      rw (lt-ltb w.st.pc p.count s.inside) (exec-same e w (p.code w.st.pc) (s.passes, s.places) s.room s.due)

  pub step-eights : (e : Units) (w : World) → Eights w → Eights (step_of p e w)
  unfolding step_of
  step-eights e w x = exec-eights e w (p.code w.st.pc) x
