-- The answer to a frame, by the lines 9 and 16 of the table.
use Prim.Native.Nat.{ℕ, ◌/◌, ◌≤◌, ◌<◌}
use mathlib.Core.Bool.{true, false, ◌&&◌}
use mathlib.Core.List.{List}
use mathlib.Core.Logic.{◌⊎◌, inl, inr}
use mathlib.Core.Path.{◌≡◌, refl, sym, ap, subst, ◌∙◌}
use native.Mathlib.Omega.{arith}
use lib.Dec.{leb, eqb}
use lib.IntN.{ℤ}
use lib.ListN.{length}
use borrow.Author.Tests.{leb-true, leb-false, eqb-true, eqb-false}
use Rattle.std.specs.Prelude.{Err}
use Rattle.ec20.proofs.Tests.{both, one-fails}
use Rattle.ec20.specs.Judged.{Judged}
use Rattle.ec20.specs.Judged.{Fine}
use Rattle.ec20.specs.Basics.{then}
use Rattle.ec20.specs.Devices.{ec20}
use Rattle.modbus.specs.Answered.{Answered}
use Rattle.modbus.specs.Answered.{Refused, Silent, Reply}
use Rattle.modbus.specs.Answer.{tables_fault, call_fault, judge_answer, answer_if, answer_of}
use Rattle.refusals.proofs.Tells.{Tells, tells, tells-fine, tells-fault}
use Rattle.served.proofs.Theorem.{served}
use Rattle.served.proofs.Ways.{not-refused}
use Rattle.demands.specs.Demand1.{AnswerNumbers}
use Rattle.demands.specs.Lines.{Line9R, Line16}
use Rattle.demands.specs.Lines.{size_m as of-m, size_d as of-d, below, above, buffer}

judged-9 : (m : List ℕ) (d : List ℤ) → Tells 9 (Line9R ec20 m d) (tables_fault m d)
unfolding tables_fault
judged-9 m d = tells (eqb (length m) (ec20.m / 8) && eqb (length d) ec20.words) 9 (Line9R ec20 m d) right wrong
  where
    right : (eqb (length m) (ec20.m / 8) && eqb (length d) ec20.words) ≡ true → Line9R ec20 m d → ⊥
    right e (of-m h) = h (eqb-true _ _ (both (eqb (length m) (ec20.m / 8)) _ e).0)
    right e (of-d h) = h (eqb-true _ _ (both (eqb (length m) (ec20.m / 8)) _ e).1)

    wrong : (eqb (length m) (ec20.m / 8) && eqb (length d) ec20.words) ≡ false → Line9R ec20 m d
    wrong e = elim (one-fails (eqb (length m) (ec20.m / 8)) (eqb (length d) ec20.words) e) [ inl q ↦ of-m (eqb-false _ _ q) | inr q ↦ of-d (eqb-false _ _ q) ]

judged-16 : (own : ℕ) (b : List ℕ) → Tells 16 (Line16 own b) (call_fault own b)
unfolding call_fault
judged-16 own b = tells (leb 1 own && leb own 247 && leb 256 (length b)) 16 (Line16 own b) right wrong
  where
    right : (leb 1 own && leb own 247 && leb 256 (length b)) ≡ true → Line16 own b → ⊥
    right e l =
        let t = both (leb 1 own && leb own 247) _ e in
        let u = both (leb 1 own) _ t.0 in
        let x : 1 ≤ own = leb-true _ _ u.0 in
        let y : own ≤ 247 = leb-true _ _ u.1 in
        let z : 256 ≤ length b = leb-true _ _ t.1 in
        elim l [ below h ↦ absurd (omega arith) | above h ↦ absurd (omega arith) | buffer h ↦ absurd (omega arith) ]

    wrong : (leb 1 own && leb own 247 && leb 256 (length b)) ≡ false → Line16 own b
    wrong e =
        elim (one-fails (leb 1 own && leb own 247) (leb 256 (length b)) e) [
          | inl q ↦
              elim (one-fails (leb 1 own) (leb own 247) q) [
                | inl r ↦ below (let h : own < 1 = leb-false _ _ r in h)
                | inr r ↦ above (let h : 247 < own = leb-false _ _ r in h)
              ]
          | inr q ↦ buffer (let h : length b < 256 = leb-false _ _ q in h)
        ]

module _ (own : ℕ) (f m : List ℕ) (d : List ℤ) (b : List ℕ) where
  abbrev Not9R : Type 0
  Not9R = Line9R ec20 m d → ⊥

  -- what a refusal says
  record Says (n k : ℕ) : Type 0 where
    pub nine : n ≡ 9 → (k ≡ 0) × Line9R ec20 m d
    pub sixteen : n ≡ 16 → (k ≡ 0) × Not9R × Line16 own b
    pub no_other : (n ≡ 9) ⊎ (n ≡ 16)

  abbrev Said : Answered → Type 0
  Said (Err r) = Says r.number r.at
  Said Silent = Unit {0}
  Said (Reply l) = Unit {0}

  by_order : (x y : Judged) → Tells 9 (Line9R ec20 m d) x → Tells 16 (Line16 own b) y → Said (answer_if (then x y) own f m d b).answer
  by_order (Err r) y p q =
      record { nine = λ _. (p.1, p.2); sixteen = λ e. absurd (omega (arith, p.0)); no_other = inl p.0 }
  by_order Fine (Err r) p q =
      record { nine = λ e. absurd (omega (arith, q.0)); sixteen = λ _. (q.1, p, q.2); no_other = inr q.0 }
  by_order Fine Fine p q = not-refused Said own f m d b tt (λ _. tt)

  told : Said (answer_of own f m d b).answer
  unfolding answer_of judge_answer
  told = by_order (tables_fault m d) (call_fault own b) (judged-9 m d) (judged-16 own b)

  says : {r : Answered} → (answer_of own f m d b).answer ≡ r → Said r
  says e = subst Said e told

  by-9 : Line9R ec20 m d → (answer_of own f m d b).answer ≡ Refused 9 0
  unfolding answer_of judge_answer
  by-9 h = rw (tells-fault 9 (Line9R ec20 m d) (tables_fault m d) (judged-9 m d) h)

  by_16 : Not9R → Line16 own b → (answer_of own f m d b).answer ≡ Refused 16 0
  unfolding answer_of judge_answer
  by_16 g h =
      rw (tells-fine 9 (Line9R ec20 m d) (tables_fault m d) (judged-9 m d) g, tells-fault 16 (Line16 own b) (call_fault own b) (judged-16 own b) h)

  pub answer_numbers : AnswerNumbers own f m d b
  answer_numbers = record {
    nine = λ k. (λ e. (says e).nine refl, λ c. by-9 c.1 ∙ ap (Refused 9) (sym c.0));
    sixteen = λ k. (λ e. (says e).sixteen refl, λ c. by_16 c.1 c.2 ∙ ap (Refused 16) (sym c.0));
    no_other = λ n k e. (says e).no_other;
    unchanged = λ n k e. let t = (served own f m d b).refused n k e in (t.0.0, t.0.1, t.1);
  }
