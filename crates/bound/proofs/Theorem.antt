-- THE THEOREMS: a scan of an accepted program makes at most W steps, ends at END, and is safe at each record.
use Prim.Native.Nat.{ℕ, suc, ◌<◌, ◌≤◌}
use mathlib.Core.Bool.{Bool, true, false}
use mathlib.Core.Logic.{◌⊎◌, inl, inr}
use mathlib.Core.List.{List}
use mathlib.Core.Path.{◌≡◌, refl, sym, ap, ◌∙◌}
use native.Mathlib.Omega.{arith}
use Rattle.ec20.specs.declared.Control.{Control}
use Rattle.ec20.specs.declared.Control.TheVariants.{Plain, Opens, Closes, Jumps, Marks, Ends}
use Rattle.ec20.specs.declared.Machine.{Machine}
use Rattle.ec20.specs.declared.Report.{Report}
use Rattle.ec20.specs.Scanned.{Ended, Watchdog, Refused}
use Rattle.ec20.specs.declared.Units.{Units}
use Rattle.ec20.specs.Verdict.{Accepted}
use Rattle.ec20.specs.Basics.{pick, some_below}
use Rattle.ec20.specs.Devices.{Device, ec20}
use Rattle.ec20.specs.Code.{program_of}
use Rattle.ec20.specs.Control.{controls_of}
use Rattle.ec20.specs.Check.{check_for, check_of}
use Rattle.ec20.specs.Flow.{is_on}
use Rattle.ec20.specs.Memory.{Memory}
use Rattle.ec20.specs.Plant.{Plant, units_in}
use Rattle.ec20.specs.Scan.{Run, run_of, start_world, scan, answer_of, run_scan, timed_scan, fitting, scan_for, scan_of}
use Rattle.bound.specs.Small.{State, control, move_on}
use Rattle.bound.specs.Safe.{Safe, AtEnd}
use Rattle.bound.specs.Scans.{Quiet, EndsIn}
use Rattle.ec20.proofs.Some.{none-at}
use Rattle.ec20.proofs.Tests.{differ}
use Rattle.ec20.proofs.NoFault.{accepted-program, accepted-count, accepted-some, accepted-steps}
use Rattle.bound.proofs.Engine.{step_same}
use Rattle.bound.proofs.Runs.{run_more, Kept, from_start}

-- a run that came to END answers so
answer-ended : (k : ℕ) (s : Machine) → s.ended ≡ 1 → answer_of k s ≡ Ended (record { steps = k; stop = s.pc; error = s.error; at = s.at })
unfolding answer_of
answer-ended k s z = rw z

-- whether it is a CJ
abbrev pub is_jump : Control → Bool
is_jump Plain = false
is_jump (Opens n) = false
is_jump Closes = false
is_jump (Jumps l) = true
is_jump (Marks l) = false
is_jump Ends = false

-- a file that the check accepts, with n records and W = w; any device, units given to timers, and memory
module _ (v : Device) (f : List ℕ) (n w : ℕ) (ok : check_for v f ≡ Accepted n w) (e : Units) (c : Memory) where
  -- what b steps come to
  abbrev pub run : ℕ → Run
  run b = run_of (program_of f) e b 0 (start_world v c)

  all : (b : ℕ) → Kept (program_of f) e (run b) (start_world v c) b 0 w
  all b = rw (← accepted-steps v f n w ok) (from_start v (program_of f) (accepted-some v f n w ok) (accepted-program v f n w ok) e b c)

  -- "Each record executed is one step": whatever the budget, there are at most W
  pub at_most_w : (b : ℕ) → (run b).steps ≤ w
  at_most_w b = let h = (all b).steps in omega arith

  -- with a budget of W or more, the run comes to END
  pub reaches_end : (b : ℕ) → w ≤ b → AtEnd (program_of f) (run b).after
  reaches_end b h = (all b).ended h

  -- whatever the budget, the run is at END, or what is due is safe
  pub each-safe : (b : ℕ) → AtEnd (program_of f) (run b).after ⊎ Safe (program_of f) (run b).after
  each-safe b = (all b).sound

  -- seen as loops and jumps, the run is a run of the small machine, which never breaks: what the definitions say of a FOR with no NEXT, of
  -- a label that is nowhere, of a ninth loop and of a NEXT with none open is never used
  pub as-small : (b : ℕ) → (run b).after.st.ended ≡ 0
      → control (run (suc b)).after ≡ move_on (controls_of (program_of f)) (program_of f).count (is_on (run b).after.st) (control (run b).after)
  as-small b z =
      elim (each-safe b) [
        | inl x ↦ let y = x.ended in absurd (omega arith)
        | inr x ↦ ap control (run_more (program_of f) e b 0 (start_world v c) z) ∙ step_same (program_of f) e (run b).after x
      ]

  pub unbroken : (b : ℕ) → (run b).after.st.ended ≡ 0
      → (move_on (controls_of (program_of f)) (program_of f).count (is_on (run b).after.st) (control (run b).after)).mark ≡ 2 → ⊥
  unbroken b z x =
      let y : (run (suc b)).after.st.ended ≡ 2 = ap (λ (s : State). s.mark) (as-small b z) ∙ x in
      elim (each-safe (suc b)) [ inl a ↦ let q = a.ended in omega arith | inr a ↦ let q = a.running in omega arith ]

  -- where no jump is taken there are just W
  pub exactly_w : (b : ℕ) → w ≤ b → Quiet (program_of f) e (start_world v c) → (run b).steps ≡ w
  exactly_w b h q = let x = (all b).exact h q in omega arith

  -- the record due is one of the program's, at END too
  pub due-inside : (b : ℕ) → (run b).after.st.pc < n
  due-inside b = rw (← accepted-count v f n w ok) (elim (each-safe b) [ inl x ↦ let y = x.last in omega arith | inr x ↦ x.inside ])

  -- so in a program with no CJ, which is one computed test
  pub no_jump : some_below n (λ k. is_jump (controls_of (program_of f) k)) ≡ false → Quiet (program_of f) e (start_world v c)
  no_jump h = λ j l y.
      let k = (run j).after.st.pc in
      let a = none-at (λ k. is_jump (controls_of (program_of f) k)) 0 n h k (omega arith) (omega (arith, due-inside j)) in
      differ (sym (ap is_jump y) ∙ a)

-- The scan's answer: of elapsed milliseconds, memory and leftovers
module _ (v : Device) (f : List ℕ) (n w : ℕ) (ok : check_for v f ≡ Accepted n w) (e : ℕ) (q : Plant) where
  abbrev given : Units
  given = units_in e q.rest

  -- where they fit: ended, in at most W steps
  pub scan-ends : (b : ℕ) → w ≤ b → fitting v e q ≡ true → EndsIn (scan_for v f e b q).answer n w
  unfolding scan_for timed_scan run_scan
  scan-ends b h x =
      let a = reaches_end v f n w ok given q.mem b h in
      let r = run v f n w ok given q.mem b in
      record {
        report = record { steps = r.steps; stop = r.after.st.pc; error = r.after.st.error; at = r.after.st.at };
        answer = rw (ok, x) (answer-ended r.steps r.after.st a.ended);
        few = at_most_w v f n w ok given q.mem b;
        last = a.last ∙ accepted-count v f n w ok;
      }

  -- and never "watchdog", of any
  pub never-watchdog : (b : ℕ) → w ≤ b → (r : Report) → (scan_for v f e b q).answer ≡ Watchdog r → ⊥
  unfolding scan_for
  never-watchdog b h r y = go (fitting v e q) refl (rw ok at y)
    where
      go : (t : Bool) → fitting v e q ≡ t → (pick t (timed_scan v (program_of f) e b q) (scan (Refused 9 0) q)).answer ≡ Watchdog r → ⊥
      go true x z = let a = scan-ends b h x in let q : ◌≡◌ {A = ℕ} 0 1 = cc (a.answer, y) in omega arith
      go false x z = let q : ◌≡◌ {A = ℕ} 0 1 = cc in omega arith

-- of an EC20 file
pub scan-of-ends : (f : List ℕ) (n w : ℕ) → check_of f ≡ Accepted n w → (e b : ℕ) (q : Plant) → w ≤ b → fitting ec20 e q ≡ true
    → EndsIn (scan_of f e b q).answer n w
unfolding check_of scan_of
scan-of-ends f n w ok e b q h x = scan-ends ec20 f n w ok e q b h x
