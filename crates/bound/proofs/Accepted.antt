-- What the check's verdict says of a program.
use Prim.Native.Nat.{ℕ, suc, ◌≤◌, ◌<◌}
use mathlib.Core.List.{List}
use mathlib.Core.Path.{◌≡◌, refl, sym, ap, ◌∙◌}
use native.Mathlib.Omega.{arith}
use lib.Dec.{leb}
use borrow.Author.Tests.{leb-true}
use Rattle.std.specs.Prelude.{Ok}
use Rattle.ec20.specs.Found.{Found}
use Rattle.ec20.specs.Found.{At, Nowhere}
use Rattle.ec20.specs.Judged.{Fine}
use Rattle.ec20.specs.Verdict.{Accepted}
use Rattle.ec20.specs.Walked.{Walked}
use Rattle.ec20.specs.Walked.{Done, Bad}
use Rattle.ec20.specs.Basics.{refused_at, then}
use Rattle.ec20.specs.Devices.{Device}
use Rattle.ec20.specs.Code.{Program, program_of}
use Rattle.ec20.specs.Control.{controls_of}
use Rattle.ec20.specs.Rung.{first_broken}
use Rattle.ec20.specs.Loops.{too_long}
use Rattle.ec20.specs.Walkers.{unsound, steps_walked}
use Rattle.ec20.specs.Labels.{first_unlabelled}
use Rattle.ec20.specs.Check.{judge_program, check_for}
use Rattle.ec20.specs.Walkers.{walked}
use Rattle.ec20.proofs.NoFault.{passed, then-fine, accepted-program, accepted-count, accepted-some, accepted-steps}
use Rattle.ec20.proofs.Walkers.{judged-by-walkers, w-by-walkers}
use Rattle.bound.specs.Right.{Right}
use Rattle.bound.proofs.Rule.{Faultless, Rule, Whole, rule-of, once-of, whole}

pub none-refused : (m : ℕ) (x : Found) → refused_at m x ≡ Fine → x ≡ Nowhere
none-refused m (At k) e = let z : ◌≡◌ {A = ℕ} 0 1 = cc in absurd (omega arith)
none-refused m Nowhere e = refl

-- a walk that refuses nothing
pub sound-walk : (x : Walked) → unsound x ≡ Fine → (m : ℕ) × (x ≡ Done m (steps_walked x))
sound-walk (Ok a) e = (a.next, refl)
sound-walk (Bad k) e = let z : ◌≡◌ {A = ℕ} 0 1 = cc in absurd (omega arith)

few-steps : (w : ℕ) → too_long w ≡ Fine → w ≤ 10000000
few-steps w e = leb-true _ _ (passed (leb w 10000000) 8 0 e)

-- a program in which nothing of 5 to 8 is refused
module _ (p : Program) (some : 0 < p.count) (fine : judge_program p ≡ Fine) where
  rest-fine : then (unsound (walked p)) (then (first_unlabelled (controls_of p) p.count) (too_long (steps_walked (walked p)))) ≡ Fine
  rest-fine = (then-fine (first_broken p) _ (sym (judged-by-walkers p some) ∙ fine)).1

  labels-fine : then (first_unlabelled (controls_of p) p.count) (too_long (steps_walked (walked p))) ≡ Fine
  labels-fine = (then-fine (unsound (walked p)) _ rest-fine).1

  pub walk-done : (m : ℕ) × (walked p ≡ Done m (steps_walked (walked p)))
  walk-done = sound-walk (walked p) (then-fine (unsound (walked p)) _ rest-fine).0

  no-faults : Faultless (controls_of p) p.count
  no-faults = none-refused 7 _ (then-fine (first_unlabelled (controls_of p) p.count) _ labels-fine).0

  judged-rule : Rule (controls_of p) p.count
  judged-rule = rule-of (controls_of p) p.count walk-done.0 (steps_walked (walked p)) walk-done.1 no-faults

  pub judged-whole : (walk-done.0 ≡ p.count) × (e u : ℕ) × Whole (controls_of p) p.count e u × (steps_walked (walked p) ≡ suc u)
  judged-whole = whole (controls_of p) p.count walk-done.0 (steps_walked (walked p)) walk-done.1 judged-rule

  pub judged-right : Right (controls_of p) p.count (steps_walked (walked p))
  judged-right = record {
    walks = walk-done.1 ∙ ap (λ (m : ℕ). Done m (steps_walked (walked p))) judged-whole.0;
    jumps = λ k l h q. let r = judged-rule k l h q in (r.0, r.1);
    once = λ k l h q. once-of (controls_of p) p.count no-faults k l h q;
    few = few-steps (steps_walked (walked p)) (then-fine (first_unlabelled (controls_of p) p.count) _ labels-fine).1;
  }

-- an accepted file
module _ (v : Device) (f : List ℕ) (n w : ℕ) (ok : check_for v f ≡ Accepted n w) where
  -- what accepted means for loops and jumps
  pub accepted-right : Right (controls_of (program_of f)) n w
  accepted-right =
      let some = accepted-some v f n w ok in
      let fine = accepted-program v f n w ok in
      rw (← accepted-count v f n w ok, ← accepted-steps v f n w ok, w-by-walkers (program_of f) some fine) (judged-right (program_of f) some fine)
