-- A run: of the renamed program on the exchanged table as of the program on the table.
use Prim.Native.Nat.{ℕ, zero, suc, ◌+◌}
use mathlib.Core.Path.{◌≡◌, refl, sym, ap, subst, ◌∙◌}
use lib.Dec.{eqb}
use lib.ListN.{length, replicate}
use Rattle.ec20.specs.declared.Units.{Units}
use Rattle.ec20.specs.Code.{Program}
use Rattle.ec20.specs.Devices.{Device, deepest}
use Rattle.ec20.specs.Memory.{Memory}
use Rattle.ec20.specs.Step.{World, world, open_loops, step_of}
use Rattle.ec20.specs.Scan.{Run, run_of, start_state, woken, start_world, reported, run_scan}
use Rattle.ec20.proofs.Tests.{picked}
use Rattle.moving.specs.Rename.{Swap, rename_program, ex_memory, ex_world, ex_ran, Whole}
use Rattle.moving.proofs.Operand.{pick-sim}
use Rattle.moving.proofs.Exec.{exec-sim}
use Rattle.moving.proofs.Keeps.{length-step}

abbrev ex_run : (ℕ → ℕ) → Run → Run
ex_run σ r = record { steps = r.steps; after = ex_world σ r.after }

-- a program whose extents all go along
module _ (σ : ℕ → ℕ) (p : Program) (whole : (k : ℕ) → Whole σ (p.code k)) (u : Units) where
  pub step-sim : (w : World) → Swap σ (length w.mem.d) → step_of (rename_program σ p) u (ex_world σ w) ≡ ex_world σ (step_of p u w)
  unfolding step_of
  step-sim w h = exec-sim σ p u (p.code w.st.pc) w (whole w.st.pc) h

  pub run_sim : (n k : ℕ) (w : World) → Swap σ (length w.mem.d) → run_of (rename_program σ p) u n k (ex_world σ w) ≡ ex_run σ (run_of p u n k w)
  unfolding run_of
  run_sim zero k w h = refl
  run_sim (suc n) k w h =
      pick-sim (ex_run σ) (eqb w.st.ended 0) _ _ _ _
      (λ _.
      ap (run_of (rename_program σ p) u n (k + 1)) (step-sim w h)
      ∙ run_sim n (k + 1) (step_of p u w) (subst (Swap σ) (sym (length-step p u w)) h))
      (λ _. refl)

  module _ (v : Device) where
    -- what turns SM0 on changes no word
    woken-sim : (c : Memory) → woken v (ex_memory σ c) ≡ ex_memory σ (woken v c)
    woken-sim c = pick-sim (ex_memory σ) v.wakes _ _ _ _ (λ _. refl) (λ _. refl)

    start-sim : (c : Memory) → start_world v (ex_memory σ c) ≡ ex_world σ (start_world v c)
    start-sim c = ap (λ (k : Memory). world k (open_loops (replicate deepest 0) (replicate deepest 0)) start_state) (woken-sim c)

    -- RUN: the same report from the exchanged table, and the memory after it is the exchanged one, for every device, budget and memory
    pub run-scan-sim : (budget : ℕ) (c : Memory) → Swap σ (length c.d)
        → run_scan v (rename_program σ p) u budget (ex_memory σ c) ≡ ex_ran σ (run_scan v p u budget c)
    unfolding run_scan
    run-scan-sim budget c h =
        let k : Swap σ (length (woken v c).d) = picked (λ (k : Memory). Swap σ (length k.d)) v.wakes _ _ (λ _. h) (λ _. h) in
        ap (λ (w : World). reported (run_of (rename_program σ p) u budget 0 w)) (start-sim c) ∙ ap reported (run_sim budget 0 (start_world v c) k)
