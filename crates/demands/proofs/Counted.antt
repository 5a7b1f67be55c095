-- A scan as so many steps of the definition.
use Prim.Native.Nat.{ℕ, zero, suc, ◌+◌, ◌≤◌, ◌<◌}
use mathlib.Core.Logic.{◌⊎◌, inl, inr}
use mathlib.Core.Path.{◌≡◌, refl, sym, ap, ap₂, subst, ◌∙◌}
use native.Mathlib.Omega.{arith}
use native.Mathlib.Numerals.{add-one}
use native.Mathlib.Decide.{dec_lt, ℕ_discrete}
use borrow.Author.Tests.{eq-eqb, ne_eqb}
use Rattle.ec20.specs.declared.Machine.{Machine}
use Rattle.ec20.specs.Code.{Program}
use Rattle.ec20.specs.Devices.{Device}
use Rattle.ec20.specs.Memory.{Memory}
use Rattle.ec20.specs.Plant.{Plant, plant, units_in}
use Rattle.ec20.specs.Step.{World, step_of}
use Rattle.ec20.specs.Scanned.{Scanned}
use Rattle.ec20.specs.declared.Units.{Units}
use Rattle.ec20.specs.Scan.{Run, Scan, scan, run_of, start_world, answer_of, run_scan, timed_scan}
use Rattle.demands.specs.Steps.{after_steps, scan_after, Answer, ended, watchdog, Counted}

module _ (v : Device) (p : Program) (u : Units) (c : Memory) where
  abbrev after : ℕ → World
  after k = after_steps v p u c k

  next : (k : ℕ) → after (k + 1) ≡ step_of p u (after k)
  unfolding after_steps
  next k = rw (add-one k)

  -- what n steps at most come to, k having been made: so many in all; none after END; fewer only at END
  record Made (n k : ℕ) (r : Run) : Type 0 where
    pub least : k ≤ r.steps
    pub most : r.steps ≤ k + n
    pub world : r.after ≡ after r.steps
    pub before : (j : ℕ) → k ≤ j → j < r.steps → (after j).st.ended ≡ 0
    pub stopped : (after r.steps).st.ended ≡ 0 → r.steps ≡ k + n

  made : (n k : ℕ) → Made n k (run_of p u n k (after k))
  unfolding run_of
  made zero k =
      record { least = omega arith; most = omega arith; world = refl; before = λ j a b. absurd (omega arith); stopped = λ _. omega arith }
  made (suc n) k =
      elim (ℕ_discrete (after k).st.ended 0) [
        | yes z ↦
            let r = made n (k + 1) in
            let w = subst (λ (x : World). Made n (k + 1) (run_of p u n (k + 1) x)) (next k) r in
            rw (eq-eqb _ _ z) (record {
              least = omega (arith, w.least);
              most = omega (arith, w.most);
              world = w.world;
              before = λ j a b. elim (ℕ_discrete j k) [ yes q ↦ rw q z | no q ↦ w.before j (omega arith) b ];
              stopped = λ h. let s = w.stopped h in omega (arith, s);
            })
        | no z ↦
            rw (ne_eqb _ _ z) (record {
              least = omega arith;
              most = omega arith;
              world = refl;
              before = λ j a b. absurd (omega arith);
              stopped = λ h. absurd (z h);
            })
      ]

  -- of the start of a scan
  made_all : (b : ℕ) → Made b 0 (run_of p u b 0 (start_world v c))
  unfolding after_steps
  made_all b = made b 0

  -- a run of j steps, where the scan still goes on, comes to the world after j steps
  pub same-world : (j : ℕ) → ((i : ℕ) → i < j → (after i).st.ended ≡ 0) → (after j).st.ended ≡ 0 → (run_of p u j 0 (start_world v c)).after ≡ after j
  same-world j h z =
      let r = run_of p u j 0 (start_world v c) in
      let m = made_all j in
      let all : r.steps ≡ j =
      elim (ℕ_discrete r.steps j) [ yes q ↦ q | no q ↦ let s = m.stopped (h r.steps (omega (arith, m.most, q))) in omega (arith, s) ] in
      m.world ∙ ap after all

told : (b k : ℕ) (s : Machine) → (s.ended ≡ 1) ⊎ (s.ended ≡ 0) → (s.ended ≡ 0 → k ≡ b) → Answer b k s (answer_of k s)
unfolding answer_of
told b k s (inl z) h = rw (ne_eqb s.ended 0 (λ q. omega (arith, z, q))) (ended z)
told b k s (inr z) h = rw (eq-eqb s.ended 0 z) (watchdog z (h z))

same_answer : {b k : ℕ} {m : Machine} {a d : Scanned} → Answer b k m a → Answer b k m d → a ≡ d
same_answer (ended z) (ended q) = refl
same_answer (ended z) (watchdog q r) = absurd (omega (arith, z, q))
same_answer (watchdog q r) (ended z) = absurd (omega (arith, z, q))
same_answer (watchdog z r) (watchdog q i) = refl

-- of so many elapsed milliseconds, on this memory and these leftovers
module _ (v : Device) (p : Program) (e : ℕ) (q : Plant) where
  abbrev upon : ℕ → World
  upon k = scan_after v p e q k

  abbrev ran-for : ℕ → Run
  ran-for b = run_of p (units_in e q.rest) b 0 (start_world v q.mem)

  -- a scan whose run stands at END or not: counted
  pub counted : (b : ℕ) → ((ran-for b).after.st.ended ≡ 1) ⊎ ((ran-for b).after.st.ended ≡ 0) → Counted v p e b q (timed_scan v p e b q)
  unfolding timed_scan run_scan
  counted b h =
      let r = ran-for b in
      let m = made_all v p (units_in e q.rest) q.mem b in
      record {
        steps = r.steps;
        in_budget = omega (arith, m.most);
        before = λ j l. m.before j (omega arith) l;
        answer =
            subst (λ (x : World). Answer b r.steps x.st (answer_of r.steps r.after.st)) m.world
            (told b r.steps r.after.st h (λ z.
            let s = m.stopped (subst (λ (x : World). x.st.ended ≡ 0) m.world z) in omega (arith, s)));
        memory = ap (λ (x : World). x.mem) m.world;
        leftovers = refl;
      }

  -- ---- and there is one scan that is counted so: the statement leaves nothing open

  -- where END was not executed, the budget is used
  used : {b k : ℕ} {a : Scanned} → Answer b k (upon k).st a → (upon k).st.ended ≡ 0 → k ≡ b
  used (ended z) h = absurd (omega (arith, z, h))
  used (watchdog z l) h = l

  not-fewer : {b : ℕ} {s t : Scan} (x : Counted v p e b q s) (y : Counted v p e b q t) → x.steps < y.steps → ⊥
  not-fewer {b} x y h = let l : x.steps ≡ b = used x.answer (y.before x.steps h) in omega (arith, y.in_budget, l, h)

  same-steps : {b : ℕ} {s t : Scan} (x : Counted v p e b q s) (y : Counted v p e b q t) → x.steps ≡ y.steps
  same-steps x y =
      elim (dec_lt x.steps y.steps) [
        | yes h ↦ absurd (not-fewer x y h)
        | no h ↦ elim (dec_lt y.steps x.steps) [ yes g ↦ absurd (not-fewer y x g) | no g ↦ omega arith ]
      ]

  pub one-scan : {b : ℕ} {s t : Scan} → Counted v p e b q s → Counted v p e b q t → s ≡ t
  one-scan {b} {s} {t} x y =
      let l : y.steps ≡ x.steps = same-steps y x in
      let a = subst (λ (k : ℕ). Answer b k (upon k).st t.answer) l y.answer in
      let m : t.plant.mem ≡ (upon x.steps).mem = y.memory ∙ ap (λ (k : ℕ). (upon k).mem) l in
      ap₂ scan (same_answer x.answer a) (ap₂ plant (x.memory ∙ sym m) (x.leftovers ∙ sym y.leftovers))
