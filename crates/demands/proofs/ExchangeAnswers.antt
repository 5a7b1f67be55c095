-- The exchange's answer, by the lines of the table.
use Prim.Native.Nat.{ℕ}
use mathlib.Core.List.{List}
use mathlib.Core.Logic.{◌⊎◌, inl, inr}
use mathlib.Core.Path.{◌≡◌, refl, sym, ap, ap₂, subst, ◌∙◌}
use native.Mathlib.Omega.{arith}
use lib.IntN.{ℤ}
use Rattle.std.specs.Prelude.{Err}
use Rattle.ec20.specs.Exchanged.{Exchanged}
use Rattle.ec20.specs.Exchanged.{Done, Refused}
use Rattle.ec20.specs.Judged.{Judged}
use Rattle.ec20.specs.Judged.{Fine}
use Rattle.ec20.specs.Basics.{then}
use Rattle.ec20.specs.Devices.{Device}
use Rattle.ec20.specs.Exchange.{Exchange, exchanged, size_fault, place_fault, judge_exchange, exchange_if, exchange_for}
use Rattle.ec20.specs.Move.{Block, block_fault, block_work}
use Rattle.demands.specs.Demand1.{ExchangeNumbers}
use Rattle.demands.specs.Lines.{Line10, Not10, Line12, Not12, Line9D, Line14D}
use Rattle.refusals.proofs.Tells.{Tells, tells-fine, tells-fault}
use Rattle.demands.proofs.Lines.{judged-10, some_word, judged-12, judged-9D, judged-14D}

module _ (v : Device) (d : List ℤ) (b : Block) (q : ℕ) where
  abbrev Not9D : Type 0
  Not9D = Line9D v d → ⊥

  abbrev Not14D : Type 0
  Not14D = Line14D v b q → ⊥

  -- what is told of the exchange
  data Told : Exchanged → Type 0 where
    by-9 : Line9D v d → Told (Refused 9 0)
    by_10 : Not9D → Line10 v b → Told (Refused 10 0)
    by-12 : Not9D → Not10 v b → Line12 v b → Told (Refused 12 0)
    by-14 : Not9D → Not10 v b → Not12 v b → Line14D v b q → Told (Refused 14 0)
    done : Not9D → Not10 v b → Not12 v b → Not14D → Told Done

  -- ---- the exchange answers so

  by_order : (x y z s : Judged) → Tells 9 (Line9D v d) x → Tells 10 (Line10 v b) y → (Not10 v b → Tells 12 (Line12 v b) z)
      → (Not10 v b → Tells 14 (Line14D v b q) s)
      → Told (exchange_if (then x (then y (then z s))) d b q).answer
  by_order (Err r) y z s f g h i = rw (f.0, f.1) (by-9 f.2)
  by_order Fine (Err r) z s f g h i = rw (g.0, g.1) (by_10 f g.2)
  by_order Fine Fine (Err r) s f g h i = let t = h g in rw (t.0, t.1) (by-12 f g t.2)
  by_order Fine Fine Fine (Err r) f g h i = let t = i g in rw (t.0, t.1) (by-14 f g (h g) t.2)
  by_order Fine Fine Fine Fine f g h i = done f g (h g) (i g)

  told : Told (exchange_for v d b q).answer
  unfolding exchange_for judge_exchange
  told =
      by_order (size_fault v d) (block_fault v b) (block_work v b) (place_fault v b q) (judged-9D v d) (judged-10 v b) (judged-12 v b)
      (λ h. judged-14D v b q (some_word v b h))

  -- ---- and no other answer is told

  answered : {x y z s : Judged} → size_fault v d ≡ x → block_fault v b ≡ y → block_work v b ≡ z → place_fault v b q ≡ s
      → (exchange_for v d b q).answer ≡ (exchange_if (then x (then y (then z s))) d b q).answer
  unfolding exchange_for judge_exchange
  answered f g h i = rw (f, g, h, i)

  fine-9 : Not9D → size_fault v d ≡ Fine
  fine-9 h = tells-fine 9 (Line9D v d) (size_fault v d) (judged-9D v d) h

  fine-10 : Not10 v b → block_fault v b ≡ Fine
  fine-10 h = tells-fine 10 (Line10 v b) (block_fault v b) (judged-10 v b) h

  fine-12 : Not10 v b → Not12 v b → block_work v b ≡ Fine
  fine-12 g h = tells-fine 12 (Line12 v b) (block_work v b) (judged-12 v b g) h

  answer : {r : Exchanged} → Told r → (exchange_for v d b q).answer ≡ r
  answer (by-9 h) = answered (tells-fault 9 (Line9D v d) (size_fault v d) (judged-9D v d) h) refl refl refl
  answer (by_10 f h) = answered (fine-9 f) (tells-fault 10 (Line10 v b) (block_fault v b) (judged-10 v b) h) refl refl
  answer (by-12 f g h) = answered (fine-9 f) (fine-10 g) (tells-fault 12 (Line12 v b) (block_work v b) (judged-12 v b g) h) refl
  answer (by-14 f g h i) =
      answered (fine-9 f) (fine-10 g) (fine-12 g h) (tells-fault 14 (Line14D v b q) (place_fault v b q) (judged-14D v b q (some_word v b g)) i)
  answer (done f g h i) =
      answered (fine-9 f) (fine-10 g) (fine-12 g h) (tells-fine 14 (Line14D v b q) (place_fault v b q) (judged-14D v b q (some_word v b g)) i)

  -- ---- number by number

  record Says (m k : ℕ) : Type 0 where
    pub nine : m ≡ 9 → (k ≡ 0) × Line9D v d
    pub ten : m ≡ 10 → (k ≡ 0) × Not9D × Line10 v b
    pub twelve : m ≡ 12 → (k ≡ 0) × Not9D × Not10 v b × Line12 v b
    pub fourteen : m ≡ 14 → (k ≡ 0) × Not9D × Not10 v b × Not12 v b × Line14D v b q
    pub no_other : (m ≡ 9) ⊎ (m ≡ 10) ⊎ (m ≡ 12) ⊎ (m ≡ 14)

  abbrev Said : Exchanged → Type 0
  Said Done = Not9D × Not10 v b × Not12 v b × Not14D
  Said (Err r) = Says r.number r.at

  said : {r : Exchanged} → Told r → Said r
  said (by-9 h) =
      record {
        nine = λ _. (refl, h);
        ten = λ z. absurd (omega arith);
        twelve = λ z. absurd (omega arith);
        fourteen = λ z. absurd (omega arith);
        no_other = inl refl;
      }
  said (by_10 f h) =
      record {
        nine = λ z. absurd (omega arith);
        ten = λ _. (refl, f, h);
        twelve = λ z. absurd (omega arith);
        fourteen = λ z. absurd (omega arith);
        no_other = inr (inl refl);
      }
  said (by-12 f g h) =
      record {
        nine = λ z. absurd (omega arith);
        ten = λ z. absurd (omega arith);
        twelve = λ _. (refl, f, g, h);
        fourteen = λ z. absurd (omega arith);
        no_other = inr (inr (inl refl));
      }
  said (by-14 f g h i) =
      record {
        nine = λ z. absurd (omega arith);
        ten = λ z. absurd (omega arith);
        twelve = λ z. absurd (omega arith);
        fourteen = λ _. (refl, f, g, h, i);
        no_other = inr (inr (inr refl));
      }
  said (done f g h i) = (f, g, h, i)

  says : {r : Exchanged} → (exchange_for v d b q).answer ≡ r → Said r
  says e = subst Said e (said told)

  -- a refused call leaves the table
  kept_if : (x : Judged) (m k : ℕ) → (exchange_if x d b q).answer ≡ Refused m k → (exchange_if x d b q).words ≡ d
  kept_if Fine m k e = let z : ◌≡◌ {A = ℕ} 0 1 = cc in absurd (omega arith)
  kept_if (Err r) m k e = refl

  kept : (m k : ℕ) → (exchange_for v d b q).answer ≡ Refused m k → (exchange_for v d b q).words ≡ d
  unfolding exchange_for
  kept m k e = kept_if (judge_exchange v d b q) m k e

  done-if : (x : Judged) → (exchange_if x d b q).answer ≡ Done → (exchange_if x d b q).words ≡ exchanged b q d
  done-if Fine e = refl
  done-if (Err r) e = let z : ◌≡◌ {A = ℕ} 0 1 = cc in absurd (omega arith)

  exchange-done : (exchange_for v d b q).answer ≡ Done → (exchange_for v d b q).words ≡ exchanged b q d
  unfolding exchange_for
  exchange-done e = done-if (judge_exchange v d b q) e

  pub exchange_numbers : ExchangeNumbers v d b q (exchange_for v d b q)
  exchange_numbers = record {
    nine = λ k. (λ e. (says e).nine refl, λ c. answer (by-9 c.1) ∙ ap (Refused 9) (sym c.0));
    ten = λ k. (λ e. (says e).ten refl, λ c. answer (by_10 c.1 c.2) ∙ ap (Refused 10) (sym c.0));
    twelve = λ k. (λ e. (says e).twelve refl, λ c. answer (by-12 c.1 c.2 c.3) ∙ ap (Refused 12) (sym c.0));
    fourteen = λ k. (λ e. (says e).fourteen refl, λ c. answer (by-14 c.1 c.2 c.3 c.4) ∙ ap (Refused 14) (sym c.0));
    done = (λ e. says e, λ c. answer (done c.0 c.1 c.2 c.3));
    exchanges = exchange-done;
    no_other = λ m k e. (says e).no_other;
    unchanged = kept;
  }

  -- what is told, an answer for which the lines hold is
  module _ (x : Exchange) (n : ExchangeNumbers v d b q x) where
    same_answer : {r : Exchanged} → Told r → x.answer ≡ r
    same_answer (by-9 h) = (n.nine 0).1 (refl, h)
    same_answer (by_10 f h) = (n.ten 0).1 (refl, f, h)
    same_answer (by-12 f g h) = (n.twelve 0).1 (refl, f, g, h)
    same_answer (by-14 f g h i) = (n.fourteen 0).1 (refl, f, g, h, i)
    same_answer (done f g h i) = n.done.1 (f, g, h, i)

    same-words : (r : Exchanged) → x.answer ≡ r → (exchange_for v d b q).answer ≡ r → x.words ≡ (exchange_for v d b q).words
    same-words Done y z = n.exchanges y ∙ sym (exchange-done z)
    same-words (Err r) y z = n.unchanged r.number r.at y ∙ sym (kept r.number r.at z)

    pub exchange-only : x ≡ exchange_for v d b q
    exchange-only =
        let a = same_answer told in
        ap₂ (λ (r : Exchanged) (w : List ℤ). record { answer = r; words = w }) a (same-words (exchange_for v d b q).answer a refl)
