-- THE ENTRY WITHOUT A BUDGET: without-budget. Its words and its statement are in specs/Budget.antt.
use Prim.Native.Nat.{ℕ, ◌≤◌, ◌<◌}
use mathlib.Core.Bool.{false}
use mathlib.Core.List.{List, [], ◌∷◌}
use mathlib.Core.Logic.{inl}
use mathlib.Core.Path.{◌≡◌, refl, sym, ap, ◌∙◌}
use native.Mathlib.Decide.{dec_lt}
use native.Mathlib.Omega.{arith}
use Rattle.std.specs.Prelude.{Err}
use Rattle.ec20.proofs.Computing.{computing}
use Rattle.ec20.proofs.Files.{FOR, NEXT, NOP, END, file}
use Rattle.ec20.specs.declared.Machine.{Machine}
use Rattle.ec20.specs.declared.Report.{Report}
use Rattle.ec20.specs.Scanned.{Scanned}
use Rattle.ec20.specs.Scanned.{Ended, Watchdog, Refused}
use Rattle.ec20.specs.Verdict.{Accepted}
use Rattle.ec20.specs.Basics.{some_below}
use Rattle.ec20.specs.Check.{check_for, check_of}
use Rattle.ec20.specs.Code.{program_of}
use Rattle.ec20.specs.Control.{controls_of}
use Rattle.ec20.specs.Devices.{Device, ec20}
use Rattle.ec20.specs.Plant.{Plant, units_in}
use Rattle.ec20.specs.Scan.{Scan, scan_for, scan_of, plain_scan}
use Rattle.bound.specs.Scans.{EndsIn}
use Rattle.bound.proofs.Theorem.{is_jump, no_jump}
use Rattle.demands.specs.Budget.{Budgets, StoppedAfter, WithoutBudget}
use Rattle.demands.specs.Lines.{Not9}
use Rattle.demands.specs.Steps.{Answer, ended, watchdog, Counted, report_of}
use Rattle.demands.proofs.Counted.{one-scan}
use Rattle.demands.proofs.Demand2.{scans-of}
use Rattle.demands.proofs.ScanAnswers.{says, scan-counted, scan-unfit, scan-misfit}

-- an answer "ended" is the answer with every budget, after as many steps as it tells
still-answer : (b b' k : ℕ) (m : Machine) (a : Scanned) (r : Report) → Answer b k m a → a ≡ Ended r → Answer b' k m a × (k ≡ r.steps)
still-answer b b' k m a r (ended z) q = let h : report_of k m ≡ r = cc in (ended z, ap (λ (x : Report). x.steps) h)
still-answer b b' k m a r (watchdog z w) q = let z : ◌≡◌ {A = ℕ} 0 1 = cc in absurd (omega arith)

module _ (v : Device) (f : List ℕ) (e b b' : ℕ) (q : Plant) where
  still-counted : (s : Scan) (r : Report) → s.answer ≡ Ended r → r.steps ≤ b' → Counted v (program_of f) e b q s → Counted v (program_of f) e b' q s
  still-counted s r h l t =
      let a = still-answer b b' t.steps _ s.answer r t.answer h in
      record { steps = t.steps; in_budget = omega (arith, a.1, l); before = t.before; answer = a.0; memory = t.memory; leftovers = t.leftovers }

  ended_stays : (r : Report) → (scan_for v f e b q).answer ≡ Ended r → r.steps ≤ b' → scan_for v f e b' q ≡ scan_for v f e b q
  ended_stays r h l =
      let t = says v f e b q h in
      one-scan v (program_of f) e q (scan-counted v f e b' q t.0 t.1) (still-counted (scan_for v f e b q) r h l t.2)

  refused_stays : (m k : ℕ) → (scan_for v f e b q).answer ≡ Refused m k → scan_for v f e b' q ≡ scan_for v f e b q
  refused_stays m k h =
      let s = says v f e b q h in
      elim (dec_lt m 9) [
        | yes l ↦ let u = s.check (omega arith) in scan-unfit v f e b' q m k u ∙ sym (scan-unfit v f e b q m k u)
        | no l ↦
            let n = s.nine (omega (arith, s.no_other.1)) in
            scan-misfit v f e b' q n.1 n.2 ∙ sym (scan-misfit v f e b q n.1 n.2)
      ]

pub budgets : (v : Device) (f : List ℕ) → Budgets v f
budgets v f = record { ended_stays = λ e b b' q. ended_stays v f e b b' q; refused_stays = λ e b b' q. refused_stays v f e b b' q }

-- ---- two budgets, d and b

module _ (v : Device) (f : List ℕ) (e d b : ℕ) (q : Plant) where
  -- both of W or more: the same
  as-with : (n w : ℕ) → check_for v f ≡ Accepted n w → w ≤ d → w ≤ b → scan_for v f e d q ≡ scan_for v f e b q
  as-with n w ok l m = go (scan_for v f e d q).answer refl
    where
      go : (a : Scanned) → (scan_for v f e d q).answer ≡ a → scan_for v f e d q ≡ scan_for v f e b q
      go (Ended r) h = let k : r.steps ≤ w = (scans-of v f n w ok).at_most_w e d q r (inl h) in sym (ended_stays v f e d b q r h (omega arith))
      go (Watchdog r) h = absurd ((scans-of v f n w ok).no_watchdog e d q l r h)
      go (Err r) h = sym (refused_stays v f e d b q r.number r.at h)

  -- with b it ends after more than d steps: with d it is stopped
  needs_more : (r : Report) → (scan_for v f e b q).answer ≡ Ended r → d < r.steps → StoppedAfter (scan_for v f e d q).answer d
  needs_more r h l = go (scan_for v f e d q).answer refl
    where
      go : (a : Scanned) → (scan_for v f e d q).answer ≡ a → StoppedAfter (scan_for v f e d q).answer d
      go (Watchdog t) g = record { report = t; answer = g; steps = (says v f e d q g).3 }
      go (Ended t) g =
          let in_d : t.steps ≤ d = (says v f e d q g).3 in
          let in_b : r.steps ≤ b = (says v f e b q h).3 in
          let s : (scan_for v f e b q).answer ≡ (scan_for v f e d q).answer = ap (λ (x : Scan). x.answer) (ended_stays v f e d b q t g (omega arith)) in
          let o : r ≡ t = cc in
          let k : r.steps ≡ t.steps = ap (λ (x : Report). x.steps) o in
          absurd (omega arith)
      go (Err r) g =
          let s : (scan_for v f e b q).answer ≡ (scan_for v f e d q).answer = ap (λ (x : Scan). x.answer) (refused_stays v f e d b q r.number r.at g) in
          let z : ◌≡◌ {A = ℕ} 0 1 = cc in
          absurd (omega arith)

-- ---- 200,000, on the EC20

pub without-budget : (f : List ℕ) → WithoutBudget f
unfolding check_of scan_of
without-budget f = record {
  no_watchdog = λ n w ok l e q r h. (scans-of ec20 f n w ok).no_watchdog e 200000 q (omega arith) r h;
  ends = λ n w ok l e q h. (scans-of ec20 f n w ok).w_is_enough e 200000 q h (omega arith);
  as_before = λ n w ok l e b q m. as-with ec20 f e 200000 b q n w ok (omega arith) m;
  needs_no_more = λ e b q r h l. ended_stays ec20 f e b 200000 q r h (omega arith);
  needs_more = λ e b q r h l. needs_more ec20 f e 200000 b q r h (omega arith);
}

-- ---- and it is not for nothing. FOR 738, FOR 269, NEXT, NEXT, END needs just 200,000 steps, and ends

abbrev just : List ℕ
just = file (FOR 738 ∷ FOR 269 ∷ NEXT ∷ NEXT ∷ END ∷ [])

just-ok : check_of just ≡ Accepted 5 200000
unfolding computing
just-ok = refl

pub just-ends : (e : ℕ) (q : Plant) → Not9 ec20 e q → EndsIn (plain_scan just e q).answer 5 200000
just-ends e q h = (without-budget just).ends 5 200000 just-ok (omega arith) e q h

-- one NOP more: 200,001, since it has no CJ; and it is stopped after 200,000, whatever its memory
abbrev more : List ℕ
more = file (FOR 738 ∷ FOR 269 ∷ NEXT ∷ NEXT ∷ NOP ∷ END ∷ [])

more-ok : check_of more ≡ Accepted 6 200001
unfolding computing
more-ok = refl

more-straight : some_below 6 (λ k. is_jump (controls_of (program_of more) k)) ≡ false
unfolding computing
more-straight = refl

pub more-stops : (e : ℕ) (q : Plant) → Not9 ec20 e q → StoppedAfter (plain_scan more e q).answer 200000
unfolding check_of scan_of
more-stops e q h =
    let quiet = no_jump ec20 more 6 200001 more-ok (units_in e q.rest) q.mem more-straight in
    let s = (scans-of ec20 more 6 200001 more-ok).exactly_w e 200001 q h (omega arith) quiet in
    (without-budget more).needs_more e 200001 q s.report s.answer (omega (arith, s.steps))
