-- One stage after the other. Assumes nothing.
use Prim.Native.Nat.{ℕ, ◌≤◌, ◌<◌}
use mathlib.Core.Bool.{Bool, true, false}
use mathlib.Core.List.{List}
use mathlib.Core.Path.{◌≡◌, refl, sym, ap, ◌∙◌}
use native.Mathlib.Omega.{arith}
use lib.Dec.{leb}
use borrow.Author.Tests.{le-leb, lt-leb, leb-true}
use Rattle.std.specs.Prelude.{Err, Ok}
use Rattle.checker.proofs.Accepted.{apart, whole-pick}
use Rattle.ec20.specs.Basics.{pick, then}
use Rattle.ec20.specs.Check.{judge_program, judge_file, verdict_of, check_for, check_of, w_of}
use Rattle.ec20.specs.Code.{Program, program_in, program_of}
use Rattle.ec20.specs.Control.{Controls, controls_of}
use Rattle.ec20.specs.Devices.{ec20}
use Rattle.ec20.specs.File.{Records, records_from, records_of, framed, frame_of}
use Rattle.ec20.specs.Labels.{first_unlabelled}
use Rattle.ec20.specs.Loops.{first_unsound, too_long}
use Rattle.ec20.specs.Walkers.{walk_of, walked, unsound, steps_walked}
use Rattle.ec20.proofs.Walkers.{walked-unsound, walked-steps}
use Rattle.ec20.specs.Operands.{first_bad}
use Rattle.ec20.specs.Rung.{first_broken}
use Rattle.ec20.specs.Frame.{Whole, Broken}
use Rattle.ec20.specs.Judged.{Judged}
use Rattle.ec20.specs.Judged.{Fine, Fault}
use Rattle.ec20.specs.Walked.{Walked}
use Rattle.ec20.specs.Walked.{Done, Bad}
use Rattle.ec20.specs.Verdict.{Verdict}
use Rattle.ec20.specs.declared.Refusal.{Refusal}
use Rattle.labels.specs.Sound.{Sound}
use Rattle.loops.specs.Capped.{capped}
use Rattle.loops.proofs.Told.{unsound-capped, too-long-capped, steps-capped}
use Rattle.ec20.specs.Verdict.{Accepted, Refused}
use Rattle.checker.specs.Stages.{stage, steps_in, from_jumps, from_loops, from_rungs, from_records}

-- a fault ends it
ends : (n w : ℕ) (a b : Judged) {d : Refusal} → ◌≡◌ {A = Judged} (Err d) a → ◌≡◌ {A = Verdict} (Err d) (stage n w (then a b))
ends n w a b e = rw (sym e) refl

-- no fault: the next stage
goes : (n w : ℕ) (a b : Judged) {v : Verdict} → Fine ≡ a → v ≡ stage n w b → v ≡ stage n w (then a b)
goes n w a b e g = g ∙ rw (sym e) refl

apart-walked : {A : Type 0} {m w k : ℕ} → ◌≡◌ {A = Walked} (Bad k) (Done m w) → A
apart-walked e = let z : ◌≡◌ {A = ℕ} 0 1 = cc in absurd (omega arith)

-- what was walked to its end has its structure right
done-walk : (x : Walked) {m w : ℕ} → Done m w ≡ capped x → (u : ℕ) × (v : ℕ) × (x ≡ Done u v)
unfolding capped
done-walk (Bad k) e = apart-walked (sym e)
done-walk (Ok a) e = (a.next, a.steps, refl)

pub sound-walk : (code : Controls) (count : ℕ) {m w : ℕ} → Done m w ≡ capped (walk_of code count) → Sound code count
unfolding Sound
sound-walk code count e = done-walk (walk_of code count) e

module _ (rs : Records) where
  -- 7, then 8
  pub jumps-fault : (w : ℕ) {d : Refusal} → ◌≡◌ {A = Judged} (Err d) (first_unlabelled (controls_of (program_in rs)) rs.count)
      → ◌≡◌ {A = Verdict} (Err d) (stage rs.count w (from_jumps rs w))
  unfolding from_jumps
  jumps-fault w e = ends rs.count w _ _ e

  pub jumps-few : (w : ℕ) → Fine ≡ first_unlabelled (controls_of (program_in rs)) rs.count → w ≤ 10000000
      → Accepted rs.count w ≡ stage rs.count w (from_jumps rs w)
  unfolding from_jumps
  jumps-few w e h = goes rs.count w _ (too_long w) e (rw (le-leb _ _ h) refl)

  pub jumps-many : (w : ℕ) → Fine ≡ first_unlabelled (controls_of (program_in rs)) rs.count → 10000000 < w
      → Refused 8 0 ≡ stage rs.count w (from_jumps rs w)
  unfolding from_jumps
  jumps-many w e h = goes rs.count w _ (too_long w) e (rw (lt-leb _ _ h) refl)

  -- 6, then the rest: the walker caps W above its limit, which changes no answer
  pub loops-bad : 0 < rs.count → {k : ℕ} → Bad k ≡ capped (walked (program_in rs)) → Refused 6 k ≡ from_loops rs
  unfolding from_loops
  loops-bad some {k = k} e =
      let x : Walked = walked (program_in rs) in
      let z : Fault 6 k ≡ unsound x = ap unsound e ∙ unsound-capped x in
      ends rs.count (steps_in rs) _ _ (z ∙ walked-unsound (controls_of (program_in rs)) rs.count some)

  later : (n w w' : ℕ) (l : Judged) → too_long w ≡ too_long w' → (w' ≤ 10000000 → w ≡ w') → stage n w (then l (too_long w)) ≡ stage n w' (then l (too_long w'))
  later n w w' (Err r) same few = refl
  later n w w' Fine same few = rw same (go (leb w' 10000000) refl)
    where
      go : (t : Bool) → leb w' 10000000 ≡ t → stage n w (pick t Fine (Fault 8 0)) ≡ stage n w' (pick t Fine (Fault 8 0))
      go true z = ap (Accepted n) (few (leb-true _ _ z))
      go false z = refl

  from-walk : (x : Walked) {m w : ℕ} → Done m w ≡ capped x → stage rs.count w (from_jumps rs w) ≡ stage rs.count (steps_walked x) (then (unsound x) (from_jumps rs (steps_walked x)))
  unfolding capped from_jumps
  from-walk (Bad k) e = apart-walked (sym e)
  from-walk (Ok a) {w = u} e =
      let z : u ≡ steps_walked (capped (Done a.next a.steps)) = ap steps_walked e in
      later rs.count u a.steps (first_unlabelled (controls_of (program_in rs)) rs.count) (ap too_long z ∙ too-long-capped (Done a.next a.steps)) (λ h. z ∙ steps-capped (Done a.next a.steps) h)

  -- the walkers find 6 and W as the definitions say them
  by-walkers : 0 < rs.count → (x : Walked) → x ≡ walked (program_in rs) → stage rs.count (steps_walked x) (then (unsound x) (from_jumps rs (steps_walked x))) ≡ from_loops rs
  unfolding from_loops
  by-walkers some x e = go (first_unsound code rs.count) refl
    where
      code : Controls
      code = controls_of (program_in rs)

      go : (j : Judged) → first_unsound code rs.count ≡ j
          → stage rs.count (steps_walked x) (then (unsound x) (from_jumps rs (steps_walked x))) ≡ stage rs.count (steps_in rs) (then (first_unsound code rs.count) (from_jumps rs (steps_in rs)))
      go Fine z = rw (e, walked-unsound code rs.count some, z, walked-steps code rs.count some z)
      go (Err r) z = rw (e, walked-unsound code rs.count some, z)

  pub loops-done : 0 < rs.count → {m w : ℕ} {v : Verdict} → Done m w ≡ capped (walked (program_in rs)) → v ≡ stage rs.count w (from_jumps rs w) → v ≡ from_loops rs
  loops-done some e g = g ∙ from-walk (walked (program_in rs)) e ∙ by-walkers some (walked (program_in rs)) refl

  -- 5, then the rest
  pub rungs-fault : {d : Refusal} → ◌≡◌ {A = Judged} (Err d) (first_broken (program_in rs)) → ◌≡◌ {A = Verdict} (Err d) (from_rungs rs)
  unfolding from_rungs judge_program
  rungs-fault e = ends rs.count (steps_in rs) _ _ e

  pub rungs-fine : {v : Verdict} → Fine ≡ first_broken (program_in rs) → v ≡ from_loops rs → v ≡ from_rungs rs
  unfolding from_rungs from_loops from_jumps judge_program
  rungs-fine e g = goes rs.count (steps_in rs) _ _ e g

  -- 2 to 4, then the rest
  pub records-fault : {d : Refusal} → ◌≡◌ {A = Judged} (Err d) (first_bad ec20 rs) → ◌≡◌ {A = Verdict} (Err d) (from_records rs)
  unfolding from_records
  records-fault e = ends rs.count (steps_in rs) _ _ e

  pub records-fine : {v : Verdict} → Fine ≡ first_bad ec20 rs → v ≡ from_rungs rs → v ≡ from_records rs
  unfolding from_records from_rungs
  records-fine e g = goes rs.count (steps_in rs) _ _ e g

-- the verdict of a program is its stage
verdict-stage : (p : Program) (j : Judged) → verdict_of p j ≡ stage p.count (w_of p) j
verdict-stage p Fine = refl
verdict-stage p (Err r) = refl

module _ (f : List ℕ) where
  broken-pick : (t : Bool) (a b : ℕ) → pick t (Whole a b) Broken ≡ Broken → t ≡ false
  broken-pick true a b e = apart (sym e)
  broken-pick false a b e = refl

  -- a whole frame: the stages from the records on
  pub whole-file : {first count : ℕ} → Whole first count ≡ frame_of f → from_records (records_from f first count) ≡ check_of f
  unfolding frame_of from_records check_of check_for judge_file program_of
  whole-file e =
      let h = whole-pick (framed f) (sym e) in
      rw (h.1, h.2, h.0) (sym (verdict-stage (program_in (records_of f)) (then (first_bad ec20 (records_of f)) (judge_program (program_in (records_of f))))))

  -- a broken one: 1
  pub broken-file : Broken ≡ frame_of f → Refused 1 0 ≡ check_of f
  unfolding frame_of check_of check_for
  broken-file e = rw (broken-pick (framed f) _ _ (sym e)) refl
