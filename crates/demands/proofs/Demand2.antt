-- DEMAND 2 IS MET: demand-2. Its words and its statement are in specs/Demand2.antt.
use Prim.Native.Nat.{ℕ, ◌≤◌, ◌<◌}
use mathlib.Core.Bool.{Bool, true, false}
use mathlib.Core.List.{List, [], ◌∷◌}
use mathlib.Core.Logic.{inl, inr}
use mathlib.Core.Path.{◌≡◌, refl, ap, subst}
use native.Mathlib.Omega.{arith}
use lib.Dec.{eqb}
use lib.IntN.{pos}
use Rattle.ec20.proofs.Computing.{computing}
use Rattle.ec20.proofs.Files.{t9, blank, still}
use Rattle.ec20.specs.declared.Machine.{Machine}
use Rattle.ec20.specs.declared.Report.{Report}
use Rattle.ec20.specs.Scanned.{Ended, Watchdog}
use Rattle.ec20.specs.declared.Units.{Units}
use Rattle.ec20.specs.Verdict.{Accepted}
use Rattle.ec20.specs.Basics.{pick}
use Rattle.ec20.specs.Check.{check_for, check_of}
use Rattle.ec20.specs.Code.{program_of}
use Rattle.ec20.specs.Devices.{Device, ec20}
use Rattle.ec20.specs.Plant.{Plant, units_in}
use Rattle.ec20.specs.Registers.{word_at}
use Rattle.ec20.specs.Scan.{Scan, Run, run_of, start_world, answer_of, run_scan, timed_scan, scan_for}
use Rattle.bound.specs.Scans.{Quiet, EndsIn}
use Rattle.bound.proofs.Example.{t9-quiet}
use Rattle.bound.proofs.Theorem.{at_most_w, due-inside, never-watchdog, scan-ends, exactly_w}
use Rattle.moving.proofs.Map.{map-kept}
use Rattle.moving.proofs.Work.{work-kept}
use Rattle.demands.specs.Demand2.{Reports, EndsAfter, Scans, Demand2}
use Rattle.demands.specs.Lines.{Not9}
use Rattle.demands.specs.Steps.{after_steps, scan_after, report_of}
use Rattle.demands.proofs.Events.{events-work}
use Rattle.demands.proofs.Lines.{fits_all}
use Rattle.demands.proofs.Total.{each-sound, filled}
use Rattle.demands.proofs.ScanAnswers.{says, scan_runs, scan-counted, fitting-true}

-- what is reported is the run's
reported : (k : ℕ) (s : Machine) (r : Report) → Reports (answer_of k s) r → report_of k s ≡ r
unfolding answer_of
reported k s r h = go (eqb s.ended 0) h
  where
    go : (t : Bool) → Reports (pick t (Watchdog (report_of k s)) (Ended (report_of k s))) r → report_of k s ≡ r
    go true (inl e) = let z : ◌≡◌ {A = ℕ} 0 1 = cc in absurd (omega arith)
    go true (inr e) = cc
    go false (inl e) = cc
    go false (inr e) = let z : ◌≡◌ {A = ℕ} 0 1 = cc in absurd (omega arith)

module _ (v : Device) (f : List ℕ) (n w : ℕ) (ok : check_for v f ≡ Accepted n w) (e b : ℕ) (q : Plant) where
  abbrev given : Units
  given = units_in e q.rest

  abbrev run : Run
  run = run_of (program_of f) given b 0 (start_world v q.mem)

  fitted : (r : Report) → Reports (scan_for v f e b q).answer r → Not9 v e q
  fitted r (inl h) = (says v f e b q h).1
  fitted r (inr h) = (says v f e b q h).1

  report : (r : Report) → Reports (scan_for v f e b q).answer r → report_of run.steps run.after.st ≡ r
  unfolding timed_scan run_scan
  report r h =
      reported run.steps run.after.st r
      (subst (λ (s : Scan). Reports s.answer r) (scan_runs v f e b q (n, w, ok) (fitted r h)) h)

  few : (r : Report) → Reports (scan_for v f e b q).answer r → r.steps ≤ w
  few r h = subst (λ (x : Report). x.steps ≤ w) (report r h) (at_most_w v f n w ok given q.mem b)

  within : (r : Report) → Reports (scan_for v f e b q).answer r → r.stop < n
  within r h = subst (λ (x : Report). x.stop < n) (report r h) (due-inside v f n w ok given q.mem b)

  never : w ≤ b → (r : Report) → (scan_for v f e b q).answer ≡ Watchdog r → ⊥
  never h r z = never-watchdog v f n w ok e q b h r z

  exact : Not9 v e q → w ≤ b → Quiet (program_of f) given (start_world v q.mem) → EndsAfter (scan_for v f e b q).answer w
  exact h l z =
      let s = scan-ends v f n w ok e q b l (fitting-true v f e b q h) in
      let told : run.steps ≡ s.report.steps = ap (λ (r : Report). r.steps) (report s.report (inl s.answer)) in
      let made : run.steps ≡ w = exactly_w v f n w ok given q.mem b l z in
      record { report = s.report; answer = s.answer; steps = omega arith }

-- on every device
pub scans-of : (v : Device) (f : List ℕ) (n w : ℕ) → check_for v f ≡ Accepted n w → Scans v f n w
scans-of v f n w ok = record {
  counted = λ e b q h. scan-counted v f e b q (n, w, ok) h;
  total = λ e b q h j l. each-sound v f n w ok e q h b (scan_for v f e b q) (scan-counted v f e b q (n, w, ok) h) j l;
  stops_inside = within v f n w ok;
  at_most_w = few v f n w ok;
  w_is_enough = λ e b q h l. scan-ends v f n w ok e q b l (fitting-true v f e b q h);
  no_watchdog = never v f n w ok;
  exactly_w = exact v f n w ok;
  work = λ e b q i h. work-kept v f n w ok i h.from e b q;
  unmarked = λ e b q i l h. map-kept v f n w ok i l h e b q;
}

pub demand-2 : (f : List ℕ) (n w : ℕ) → check_of f ≡ Accepted n w → Demand2 f n w
unfolding check_of
demand-2 f n w ok = record { scans = scans-of ec20 f n w ok; filled = filled; work_series = λ q es i h. events-work f n w ok i h q es }

-- ---- and it is not for nothing: T9, FOR 3, LD SM0, INC D0, NEXT, END, on memory that is all zeros

t9-ok : check_of t9 ≡ Accepted 5 11
unfolding computing
t9-ok = refl

pub t9-met : Demand2 t9 5 11
t9-met = demand-2 t9 5 11 t9-ok

fits : Not9 ec20 7 (still blank)
unfolding computing
fits = fits_all ec20 7 (still blank) refl

pub t9-enough : EndsIn (scan_for ec20 t9 7 11 (still blank)).answer 5 11
t9-enough = t9-met.scans.w_is_enough 7 11 (still blank) fits (omega arith)

-- it has no CJ: just 11 steps
pub t9-exact : EndsAfter (scan_for ec20 t9 7 100 (still blank)).answer 11
t9-exact = t9-met.scans.exactly_w 7 100 (still blank) fits (omega arith) (t9-quiet (units_in 7 (0 ∷ 0 ∷ [])) blank)

-- the budget of 11 is used and END was executed: D0 is 3
pub t9-ends : ((scan_for ec20 t9 7 11 (still blank)).answer ≡ Ended (record { steps = 11; stop = 4; error = 0; at = 0 })) × (word_at (scan_for ec20 t9 7 11 (still blank)).plant.mem.d 0 ≡ pos 3)
unfolding computing
t9-ends = (refl, refl)

-- one step less: watchdog, with END due
pub t9-stops : (scan_for ec20 t9 7 10 (still blank)).answer ≡ Watchdog (record { steps = 10; stop = 4; error = 0; at = 0 })
unfolding computing
t9-stops = refl

-- after five steps a second pass has begun: D0 is 1, as after five steps of the definition
pub t9-five : ((scan_for ec20 t9 7 5 (still blank)).answer ≡ Watchdog (record { steps = 5; stop = 2; error = 0; at = 0 }))
    × (word_at (scan_for ec20 t9 7 5 (still blank)).plant.mem.d 0 ≡ pos 1)
    × (word_at (scan_after ec20 (program_of t9) 7 (still blank) 5).mem.d 0 ≡ pos 1)
unfolding computing after_steps
t9-five = (refl, refl, refl)
