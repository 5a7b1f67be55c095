-- Runs of the machine: what is left falls at each step, and each world on the way is safe.
use Prim.Native.Nat.{ℕ, zero, suc, ◌+◌, ◌<◌, ◌≤◌}
use mathlib.Core.Bool.{false}
use mathlib.Core.Logic.{◌⊎◌, inl, inr}
use mathlib.Core.Path.{◌≡◌, refl, sym, ap, subst, ◌∙◌}
use native.Mathlib.Omega.{arith}
use native.Mathlib.Decide.{ℕ_discrete}
use lib.ListN.{length}
use borrow.Author.Tests.{eq-eqb, ne_eqb}
use Rattle.ec20.specs.declared.Control.TheVariants.{Jumps}
use Rattle.ec20.specs.Judged.{Fine}
use Rattle.ec20.specs.declared.Units.{Units}
use Rattle.ec20.specs.Code.{Program}
use Rattle.ec20.specs.Control.{control_of, controls_of}
use Rattle.ec20.specs.Devices.{Device}
use Rattle.ec20.specs.Check.{judge_program, w_of}
use Rattle.ec20.specs.Flow.{is_on}
use Rattle.ec20.specs.Memory.{Memory}
use Rattle.ec20.specs.Step.{World, step_of}
use Rattle.ec20.specs.Scan.{Run, run_of, start_world}
use Rattle.ec20.proofs.Walkers.{w-by-walkers}
use Rattle.bound.specs.Small.{State, loops_of, control, move_on}
use Rattle.bound.specs.Safe.{Safe, AtEnd}
use Rattle.bound.specs.Scans.{Quiet}
use Rattle.bound.proofs.Rule.{Rule}
use Rattle.bound.proofs.Accepted.{judged-whole}
use Rattle.bound.proofs.Left.{Left, left-some, left-start}
use Rattle.bound.proofs.Bound.{Fewer, fewer-left}
use Rattle.bound.proofs.Due.{left-held}
use Rattle.bound.proofs.Stack.{length-loops, fors-same}
use Rattle.bound.proofs.Engine.{Eights, step_same, step-eights}

module _ (p : Program) (e : Units) where
  run_none : (k : ℕ) (w : World) → run_of p e zero k w ≡ record { steps = k; after = w }
  unfolding run_of
  run_none k w = refl

  run_on : (n k : ℕ) (w : World) → w.st.ended ≡ 0 → run_of p e (suc n) k w ≡ run_of p e n (k + 1) (step_of p e w)
  unfolding run_of
  run_on n k w z = rw (eq-eqb _ _ z)

  run-stop : (n k : ℕ) (w : World) → (w.st.ended ≡ 0 → ⊥) → run_of p e n k w ≡ record { steps = k; after = w }
  unfolding run_of
  run-stop zero k w z = refl
  run-stop (suc n) k w z = rw (ne_eqb _ _ z)

  -- where a run comes to does not depend on how many steps were counted before
  same_after : (n k j : ℕ) (w : World) → (run_of p e n k w).after ≡ (run_of p e n j w).after
  same_after zero k j w = rw (run_none k w, run_none j w)
  same_after (suc n) k j w =
      elim (ℕ_discrete w.st.ended 0) [
        | yes z ↦ rw (run_on n k w z, run_on n j w z) (same_after n (k + 1) (j + 1) (step_of p e w))
        | no z ↦ rw (run-stop (suc n) k w z, run-stop (suc n) j w z)
      ]

  -- one step more, from where a run came to
  pub run_more : (n k : ℕ) (w : World) → (run_of p e n k w).after.st.ended ≡ 0 → (run_of p e (suc n) k w).after ≡ step_of p e (run_of p e n k w).after
  run_more zero k w h = rw (run_none k w, run_on zero k w (rw (run_none k w) at h), run_none (k + 1) (step_of p e w))
  run_more (suc n) k w h =
      elim (ℕ_discrete w.st.ended 0) [
        | yes z ↦ rw (run_on (suc n) k w z, run_on n k w z) (run_more n (k + 1) (step_of p e w) (rw (run_on n k w z) at h))
        | no z ↦ absurd (z (rw (run-stop (suc n) k w z) at h))
      ]

  quiet-now : (w : World) → Quiet p e w → (l : ℕ) → control_of (p.code w.st.pc) ≡ Jumps l → is_on w.st ≡ false
  quiet-now w q l h = rw (run_none 0 w) at (q 0 l (rw (run_none 0 w) h))

  quiet_next : (w : World) → w.st.ended ≡ 0 → Quiet p e w → Quiet p e (step_of p e w)
  quiet_next w z q n l h =
      let a : (run_of p e (suc n) 0 w).after ≡ (run_of p e n 0 (step_of p e w)).after = rw (run_on n 0 w z) (same_after n 1 0 (step_of p e w)) in
      rw a at (q (suc n) l (rw a h))

  -- what is known of a world on the way, m steps being left
  pub record OnWay (w : World) (m : ℕ) : Type 0 where
    pub eights : Eights w
    pub left : Left (controls_of p) p.count (control w) m

  -- what comes of n steps from w on, with k counted before and m left
  pub record Kept (r : Run) (w : World) (n k m : ℕ) : Type 0 where
    pub steps : r.steps ≤ k + m
    pub ended : m ≤ n → AtEnd p r.after
    pub exact : m ≤ n → Quiet p e w → r.steps ≡ k + m
    pub sound : AtEnd p r.after ⊎ Safe p r.after

  module _ (rule : Rule (controls_of p) p.count) where
    safe-here : (w : World) (m : ℕ) → OnWay w m → Safe p w
    safe-here w m o =
        let h = left-held (controls_of p) p.count rule o.left in
        let l : length (loops_of w.st.depth w.loops.left w.loops.back) ≡ w.st.depth = length-loops w.st.depth w.loops.left w.loops.back in
        record {
          running = o.left.runs;
          inside = h.inside;
          room = omega (arith, h.room);
          passes = o.eights.0;
          places = o.eights.1;
          loops = h.loops ∙ sym (fors-same w.st.depth w.loops.left w.loops.back);
          due = rw l at h.due;
        }

    -- one step on the way: it goes on with fewer left, or it was the last
    abbrev Stepped : World → ℕ → Type 0
    Stepped w m =
        ((j : ℕ) × OnWay (step_of p e w) j × (suc j ≤ m) × (Quiet p e w → suc j ≡ m))
        ⊎ (AtEnd p (step_of p e w) × (m ≡ 1))

    stepped : (w : World) (m : ℕ) → OnWay w m → Stepped w m
    stepped w m o = go (fewer-left (controls_of p) p.count rule (is_on w.st) (control w) m o.left)
      where
        same : control (step_of p e w) ≡ move_on (controls_of p) p.count (is_on w.st) (control w)
        same = step_same p e w (safe-here w m o)

        go : Fewer (controls_of p) p.count (is_on w.st) (move_on (controls_of p) p.count (is_on w.st) (control w)) (control_of (p.code w.st.pc)) m → Stepped w m
        go (inl f) =
            inl (
              f.0,
              record {
                eights = step-eights p e w o.eights;
                left = subst (λ (s : State). Left (controls_of p) p.count s f.0) (sym same) f.1;
              },
              f.2,
              λ q. f.3 (quiet-now w q),
            )
        go (inr f) =
            let u = step_of p e w in
            inr (
              record {
                ended = ap (λ (s : State). s.mark) same ∙ f.0;
                last = ap (λ (s : State). s.pc + 1) same ∙ f.2;
                closed = sym (length-loops u.st.depth u.loops.left u.loops.back) ∙ ap (λ (s : State). length s.loops) same ∙ f.3;
              },
              f.1,
            )

    pub kept : (n k m : ℕ) (w : World) → OnWay w m → Kept (run_of p e n k w) w n k m
    kept zero k m w o =
        let h : 0 < m = left-some (controls_of p) p.count o.left in
        rw (run_none k w) (record {
          steps = omega arith;
          ended = λ l. absurd (omega arith);
          exact = λ l q. absurd (omega arith);
          sound = inr (safe-here w m o);
        })
    kept (suc n) k m w o = rw (run_on n k w o.left.runs) (go (λ j u. kept n (k + 1) j (step_of p e w) u) (stepped w m o))
      where
        go : ((j : ℕ) → OnWay (step_of p e w) j → Kept (run_of p e n (k + 1) (step_of p e w)) (step_of p e w) n (k + 1) j) → Stepped w m
            → Kept (run_of p e n (k + 1) (step_of p e w)) w (suc n) k m
        go rec (inl f) =
            let r = rec f.0 f.1 in
            let a : suc f.0 ≤ m = f.2 in
            let b : (run_of p e n (k + 1) (step_of p e w)).steps ≤ k + 1 + f.0 = r.steps in
            record {
              steps = omega arith;
              ended = λ l. r.ended (omega arith);
              exact = λ l q. let x = r.exact (omega arith) (quiet_next w o.left.runs q) in let y = f.3 q in omega arith;
              sound = r.sound;
            }
        go rec (inr f) =
            let a : m ≡ 1 = f.1 in
            rw (run-stop n (k + 1) (step_of p e w) (λ z. let y = f.0.ended in omega arith)) (record {
              steps = omega arith;
              ended = λ l. f.0;
              exact = λ l q. omega arith;
              sound = inl f.0;
            })

-- of a program in which nothing of 5 to 8 is refused, from the start of a scan on
module _ (v : Device) (p : Program) (some : 0 < p.count) (fine : judge_program p ≡ Fine) where
  pub from_start : (e : Units) (n : ℕ) (c : Memory) → Kept p e (run_of p e n 0 (start_world v c)) (start_world v c) n 0 (w_of p)
  unfolding loops_of
  from_start e n c =
      let h = judged-whole p some fine in
      kept p e h.3.rule n 0 (w_of p) (start_world v c) (record {
        eights = (refl, refl);
        left = rw (w-by-walkers p some fine, h.4) (left-start (controls_of p) p.count h.3);
      })
