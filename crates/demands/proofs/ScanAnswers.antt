-- The scan's answer, by the lines of the table.
use Prim.Native.Nat.{ℕ, ◌≤◌}
use mathlib.Core.Bool.{Bool, true, false}
use mathlib.Core.List.{List}
use mathlib.Core.Logic.{inl, inr}
use mathlib.Core.Path.{◌≡◌, refl, sym, ap, ap₂, subst, ◌∙◌}
use native.Mathlib.Omega.{arith}
use Rattle.std.specs.Prelude.{Err, Ok}
use Rattle.ec20.specs.Scanned.{Scanned}
use Rattle.ec20.specs.Scanned.{Ended, Watchdog, Refused}
use Rattle.ec20.specs.Verdict.{Verdict}
use Rattle.ec20.specs.Verdict.{Refused as Unfit}
use Rattle.ec20.specs.Basics.{pick}
use Rattle.ec20.specs.Check.{check_for}
use Rattle.ec20.specs.Code.{program_of}
use Rattle.ec20.specs.Devices.{Device}
use Rattle.ec20.specs.Plant.{Plant, units_in}
use Rattle.ec20.specs.Scan.{Scan, scan, timed_scan, fitting, scan_if, scan_for}
use Rattle.bound.proofs.Theorem.{each-safe}
use Rattle.refusals.proofs.Refused.{one_to_eight}
use Rattle.demands.specs.Demand1.{Ends, at_end, by_budget, refused, ScanNumbers}
use Rattle.demands.specs.Lines.{Accepts, Line9, Not9}
use Rattle.demands.specs.Steps.{scan_after, Answer, ended, watchdog, Counted}
use Rattle.demands.proofs.Lines.{misfit, fits_all}
use Rattle.demands.proofs.Counted.{counted, one-scan}

module _ (v : Device) (f : List ℕ) (e b : ℕ) (q : Plant) where
  -- what is told of a scan: refused, with memory and leftovers as they were, or a run that is counted
  data Told : Scan → Type 0 where
    by-check : {m k : ℕ} → check_for v f ≡ Unfit m k → Told (scan (Refused m k) q)
    by-9 : Accepts v f → Line9 v e q → Told (scan (Refused 9 0) q)
    runs : {s : Scan} → Accepts v f → Not9 v e q → Counted v (program_of f) e b q s → Told s

  run-counted : Accepts v f → Counted v (program_of f) e b q (timed_scan v (program_of f) e b q)
  run-counted ok =
      counted v (program_of f) e q b
      (elim (each-safe v f ok.0 ok.1 ok.2 (units_in e q.rest) q.mem b) [ inl z ↦ inl z.ended | inr z ↦ inr z.running ])

  by-fit : Accepts v f → (t : Bool) → fitting v e q ≡ t → Told (pick t (timed_scan v (program_of f) e b q) (scan (Refused 9 0) q))
  by-fit ok true h = runs ok (fits_all v e q h) (run-counted ok)
  by-fit ok false h = by-9 ok (misfit v e q h)

  by-verdict : (x : Verdict) → check_for v f ≡ x → Told (scan_if v x (program_of f) e b q)
  by-verdict (Ok a) h = by-fit (a.records, a.steps, h) (fitting v e q) refl
  by-verdict (Err r) h = by-check h

  told : Told (scan_for v f e b q)
  unfolding scan_for
  told = by-verdict (check_for v f) refl

  -- ---- what that says

  pub record Says (m k : ℕ) (s : Scan) : Type 0 where
    pub check : m ≤ 8 → check_for v f ≡ Unfit m k
    pub nine : m ≡ 9 → (k ≡ 0) × Accepts v f × Line9 v e q
    pub no_other : (1 ≤ m) × (m ≤ 9)
    pub kept : s.plant ≡ q

  abbrev pub Said : Scan → Scanned → Type 0
  Said s (Ended r) = Accepts v f × Not9 v e q × Counted v (program_of f) e b q s × (r.steps ≤ b)
  Said s (Watchdog r) = Accepts v f × Not9 v e q × Counted v (program_of f) e b q s × (r.steps ≡ b)
  Said s (Err r) = Says r.number r.at s

  said-run : (s : Scan) (a : Scanned) → Accepts v f → Not9 v e q → (t : Counted v (program_of f) e b q s) → Answer b t.steps (scan_after v (program_of f) e q t.steps).st a → Said s a
  said-run s a ok n t (ended z) = (ok, n, t, t.in_budget)
  said-run s a ok n t (watchdog z h) = (ok, n, t, h)

  said : {s : Scan} → Told s → Said s s.answer
  said (by-check {m} {k} h) =
      let l = one_to_eight v f m k h in
      record { check = λ _. h; nine = λ z. absurd (omega (arith, l.1, z)); no_other = (l.0, omega (arith, l.1)); kept = refl }
  said (by-9 ok h) = record { check = λ z. absurd (omega arith); nine = λ _. (refl, ok, h); no_other = (omega arith, omega arith); kept = refl }
  said (runs {s} ok n t) = said-run s s.answer ok n t t.answer

  pub says : {a : Scanned} → (scan_for v f e b q).answer ≡ a → Said (scan_for v f e b q) a
  says h = subst (Said (scan_for v f e b q)) h (said told)

  pub scan-ends : Ends b (scan_for v f e b q).answer
  scan-ends = go (scan_for v f e b q).answer refl
    where
      go : (a : Scanned) → (scan_for v f e b q).answer ≡ a → Ends b a
      go (Ended r) h = at_end r (says h).3
      go (Watchdog r) h = by_budget r (says h).3
      go (Err r) h = refused r.number r.at

  -- ---- and no other answer is told

  fits : Not9 v e q → (t : Bool) → fitting v e q ≡ t → t ≡ true
  fits n true h = refl
  fits n false h = absurd (n (misfit v e q h))

  pub fitting-true : Not9 v e q → fitting v e q ≡ true
  fitting-true n = fits n (fitting v e q) refl

  fits_not : Line9 v e q → (t : Bool) → fitting v e q ≡ t → t ≡ false
  fits_not n true h = absurd (fits_all v e q h n)
  fits_not n false h = refl

  -- a scan of an accepted file on memory and leftovers that fit is the timed run of its program
  pub scan_runs : Accepts v f → Not9 v e q → scan_for v f e b q ≡ timed_scan v (program_of f) e b q
  unfolding scan_for
  scan_runs ok n = rw (ok.2, fitting-true n)

  pub scan-counted : Accepts v f → Not9 v e q → Counted v (program_of f) e b q (scan_for v f e b q)
  scan-counted ok n = subst (Counted v (program_of f) e b q) (sym (scan_runs ok n)) (run-counted ok)

  pub scan-unfit : (m k : ℕ) → check_for v f ≡ Unfit m k → scan_for v f e b q ≡ scan (Refused m k) q
  unfolding scan_for
  scan-unfit m k h = rw h

  pub scan-misfit : Accepts v f → Line9 v e q → scan_for v f e b q ≡ scan (Refused 9 0) q
  unfolding scan_for
  scan-misfit ok n = rw (ok.2, fits_not n (fitting v e q) refl)

  pub scan_numbers : ScanNumbers v f e b q (scan_for v f e b q)
  scan_numbers = record {
    one_to_eight = λ m k h. (λ z. (says z).check (omega (arith, h)), λ z. ap (λ (s : Scan). s.answer) (scan-unfit m k z));
    nine = λ k. (λ z. (says z).nine refl, λ z. ap (λ (s : Scan). s.answer) (scan-misfit z.1 z.2) ∙ ap (Refused 9) (sym z.0));
    no_other = λ m k z. (says z).no_other;
    unchanged = λ m k z. (says z).kept;
    runs = scan-counted;
  }

  -- what is told, a scan for which the lines hold is
  scan-same : {s t : Scan} → ScanNumbers v f e b q s → Told t → s ≡ t
  scan-same n (by-check {m} {k} h) =
      let a = (n.one_to_eight m k (omega (arith, (one_to_eight v f m k h).1))).1 h in ap₂ scan a (n.unchanged m k a)
  scan-same n (by-9 ok h) = let a = (n.nine 0).1 (refl, ok, h) in ap₂ scan a (n.unchanged 9 0 a)
  scan-same n (runs ok h t) = one-scan v (program_of f) e q (n.runs ok h) t

  pub scan-only : (s : Scan) → ScanNumbers v f e b q s → s ≡ scan_for v f e b q
  scan-only s n = scan-same n told
