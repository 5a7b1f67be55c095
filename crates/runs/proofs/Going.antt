-- A run under way: what is left of it is the whole run. Assumes nothing.
use Prim.Native.Nat.{ℕ, zero, suc, ◌+◌, ◌-◌, ◌≤◌, ◌<◌}
use mathlib.Core.Bool.{true, false}
use mathlib.Core.List.{List}
use mathlib.Core.Path.{◌≡◌, refl, sym, ap, subst, ◌∙◌}
use native.Mathlib.Omega.{arith}
use lib.ListN.{replicate}
use borrow.Author.Tests.{eq-eqb, ne_eqb}
use Rattle.ec20.specs.Code.{Program, code_of, program_in}
use Rattle.ec20.specs.Control.{control_of}
use Rattle.ec20.specs.Devices.{ec20}
use Rattle.ec20.specs.File.{Records}
use Rattle.ec20.specs.Flow.{stopped}
use Rattle.ec20.specs.Bits.{with_bit}
use Rattle.ec20.specs.Memory.{Memory, with_sm}
use Rattle.ec20.specs.Scan.{Run, ran, run_of, run_scan, answer_of, start_state}
use Rattle.ec20.specs.Step.{World, Open, open_loops, world, step_of}
use Rattle.ec20.specs.declared.Machine.{Machine}
use Rattle.ec20.specs.Scanned.{Scanned}
use Rattle.ec20.specs.declared.Units.{Units}
use Rattle.runs.specs.Ends.{ends}
use Rattle.runs.specs.Ran.{ran_from}
use Rattle.runs.proofs.Ending.{step-ends, step_keeps}
use Rattle.jumps.proofs.Bounds.{sane-start, sane-step}
use Rattle.jumps.proofs.Within.{end-past}
use Rattle.jumps.specs.Sane.{Sane}

abbrev stopping : ℕ → World → Run
stopping k w = record { steps = k; after = w }

module _ (rs : Records) (e : Units) where
  run-done : (j k : ℕ) (w : World) → (w.st.ended ≡ 0 → ⊥) → run_of (program_in rs) e j k w ≡ stopping k w
  unfolding run_of
  run-done zero k w h = refl
  run-done (suc j) k w h = rw (ne_eqb _ _ h) refl

  run-used : (j k : ℕ) (w : World) → j ≡ 0 → run_of (program_in rs) e j k w ≡ stopping k w
  unfolding run_of
  run-used j k w z = rw z refl

  run_more : (j i k m : ℕ) (w v : World) → j ≡ suc i → m ≡ k + 1 → w.st.ended ≡ 0 → v ≡ step_of (program_in rs) e w → run_of (program_in rs) e i m v ≡ run_of (program_in rs) e j k w
  unfolding run_of
  run_more j i k m w v s t z g = rw (s, t, g, eq-eqb _ _ z) refl

  -- all but j steps of a run of budget n, none of them END, led from the memory c₀ to the world w
  pub record Going (n : ℕ) (c₀ : Memory) (w : World) (j : ℕ) : Type 0 where
    pub within : j ≤ n
    pub goes : w.st.ended ≡ 0
    pub sane : Sane (program_in rs) w
    pub same : run_of (program_in rs) e j (n - j) w ≡ run_of (program_in rs) e n 0 (world c₀ (open_loops (replicate 8 0) (replicate 8 0)) start_state)

  module _ (n : ℕ) (c₀ : Memory) where
    pub going_start : {s : Machine} → s ≡ start_state → Going n c₀ (world c₀ (open_loops (replicate 8 0) (replicate 8 0)) s) n
    going_start g =
        rw g (record {
          within = omega arith;
          goes = refl;
          sane = sane-start (program_in rs) c₀;
          same = let f : n - n ≡ 0 = omega arith in rw f refl;
        })

    pub going_on : (w v : World) (j : ℕ) → Going n c₀ w j → 0 < j → ends (control_of (code_of rs w.st.pc)) ≡ false → v ≡ step_of (program_in rs) e w → Going n c₀ v (j - 1)
    going_on w v j g h z f =
        let l : j ≤ n = g.within in
        record {
          within = omega arith;
          goes = ap (λ (u : World). u.st.ended) f ∙ step_keeps (program_in rs) e w z ∙ g.goes;
          sane = subst (Sane (program_in rs)) (sym f) (sane-step (program_in rs) (end-past rs) e w g.sane);
          same = run_more j (j - 1) (n - j) (n - (j - 1)) w v (omega arith) (omega arith) g.goes f ∙ g.same;
        }

    -- a run of which j steps are left, and that makes none of them
    over : (c : Memory) (o : Open) (s : Machine) (j k : ℕ) {a : Scanned} → run_of (program_in rs) e j k (world c o s) ≡ run_of (program_in rs) e n 0 (world c₀ (open_loops (replicate 8 0) (replicate 8 0)) start_state)
        → run_of (program_in rs) e j k (world c o s) ≡ stopping k (world c o s) → a ≡ answer_of k s → ran a c ≡ ran_from (program_in rs) e n c₀
    unfolding ran_from
    over c o s j k g f q = rw (← g, f, q) refl

    -- END is due, and is one step more
    pub going-ended : (c : Memory) (o : Open) (s : Machine) (j : ℕ) {a : Scanned} → Going n c₀ (world c o s) j → 0 < j → ends (control_of (code_of rs s.pc)) ≡ true → a ≡ answer_of (n - j + 1) (stopped s)
        → ran a c ≡ ran_from (program_in rs) e n c₀
    going-ended c o s j g h z q =
        let w : World = world c o s in
        let v : World = world c o (stopped s) in
        let k : ℕ = n - j + 1 in
        let more : run_of (program_in rs) e (j - 1) k v ≡ run_of (program_in rs) e j (n - j) w = run_more j (j - 1) (n - j) k w v (omega arith) refl g.goes (sym (step-ends (program_in rs) e w z)) in
        over c o (stopped s) (j - 1) k (more ∙ g.same) (run-done (j - 1) k v (λ y. omega (arith, y))) q

    -- all steps are made
    pub going-used : (c : Memory) (o : Open) (s : Machine) (j : ℕ) {a : Scanned} → Going n c₀ (world c o s) j → j ≤ 0 → a ≡ answer_of n s → ran a c ≡ ran_from (program_in rs) e n c₀
    going-used c o s j g h q =
        let f : n ≡ n - j = omega arith in
        over c o s j (n - j) g.same (run-used j (n - j) (world c o s) (omega arith)) (q ∙ ap (λ (k : ℕ). answer_of k s) f)

-- a scan is a run once SM0 is on
pub ran-scan : (p : Program) (e : Units) (b : ℕ) (c : Memory) {bits : List ℕ} → bits ≡ with_bit c.sm 0 1 → ran_from p e b (with_sm c bits) ≡ run_scan ec20 p e b c
unfolding ran_from run_scan
ran-scan p e b c g = rw g refl
