-- A step of END stops the machine, and a step of any other record keeps it going. Assumes nothing.
use Prim.Native.Nat.{ℕ, ◌-◌}
use mathlib.Core.Bool.{Bool, true, false}
use mathlib.Core.Path.{◌≡◌, refl, subst}
use lib.Dec.{eqb, ltb}
use lib.ListN.{get_or}
use Rattle.bound.proofs.Onward.{contact-on, compare-on, join-on, branch-on, word_on}
use Rattle.ec20.proofs.Tests.{picked}
use Rattle.ec20.specs.Code.{Program}
use Rattle.ec20.specs.Control.{control_of}
use Rattle.ec20.specs.Flow.{stopped}
use Rattle.ec20.specs.Step.{World, going, for_of, close_of, jump_of, exec_of, step_of}
use Rattle.ec20.specs.declared.Instr.{Instr}
use Rattle.ec20.specs.declared.Instr.TheVariants.{Nop, Contact, Compare, Join, Branch, Coil, Timer, For, Next, Jump, Label, End, Word}
use Rattle.ec20.specs.declared.Units.{Units}
use Rattle.runs.specs.Ends.{ends}

-- from the world w to the world u by END, or by another record
abbrev Met : Bool → World → World → Type 0
Met true w u = u ≡ going w w.mem (stopped w.st)
Met false w u = u.st.ended ≡ w.st.ended

module _ (p : Program) where
  for-keeps : (c : ℕ) (w : World) → (for_of p c w).st.ended ≡ w.st.ended
  unfolding for_of
  for-keeps c w =
      picked (λ (u : World). u.st.ended ≡ w.st.ended) (eqb c 0) _ _
      (λ _. refl)
      (λ _. picked (λ (u : World). u.st.ended ≡ w.st.ended) (ltb w.st.depth 8) _ _ (λ _. refl) (λ _. refl))

  close-keeps : (w : World) → (close_of w).st.ended ≡ w.st.ended
  unfolding close_of
  close-keeps w =
      picked (λ (u : World). u.st.ended ≡ w.st.ended) (ltb 1 (get_or w.loops.left (w.st.depth - 1) 0)) _ _ (λ _. refl) (λ _. refl)

  exec-met : (e : Units) (w : World) (i : Instr) → Met (ends (control_of i)) w (exec_of p e i w)
  unfolding ends control_of exec_of jump_of
  exec-met e w Nop = refl
  exec-met e w (Contact n o) = (contact-on n _ w.st).ended
  exec-met e w (Compare n a b) = (compare-on n _ _ w.st).ended
  exec-met e w (Join n) = (join-on n w.st).ended
  exec-met e w (Branch n) = (branch-on n w.st).ended
  exec-met e w (Coil n o) = refl
  exec-met e w (Timer i c) = refl
  exec-met e w (For c) = for-keeps c w
  exec-met e w Next = close-keeps w
  exec-met e w (Jump l) = refl
  exec-met e w (Label l) = refl
  exec-met e w End = refl
  exec-met e w (Word n a b t) = (word_on n a b t w).st.ended

  pub step-ends : (e : Units) (w : World) → ends (control_of (p.code w.st.pc)) ≡ true → step_of p e w ≡ going w w.mem (stopped w.st)
  unfolding step_of
  step-ends e w h = subst (λ (b : Bool). Met b w (exec_of p e (p.code w.st.pc) w)) h (exec-met e w (p.code w.st.pc))

  pub step_keeps : (e : Units) (w : World) → ends (control_of (p.code w.st.pc)) ≡ false → (step_of p e w).st.ended ≡ w.st.ended
  unfolding step_of
  step_keeps e w h = subst (λ (b : Bool). Met b w (exec_of p e (p.code w.st.pc) w)) h (exec-met e w (p.code w.st.pc))
