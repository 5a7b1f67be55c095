-- The mover's answer, by the lines of the table.
use Prim.Native.Nat.{ℕ, ◌≤◌}
use mathlib.Core.List.{List}
use mathlib.Core.Logic.{◌⊎◌, inl, inr}
use mathlib.Core.Path.{◌≡◌, refl, sym, ap, ap₂, subst, ◌∙◌}
use native.Mathlib.Omega.{arith}
use Rattle.std.specs.Prelude.{Err, Ok}
use Rattle.ec20.specs.Found.{Found}
use Rattle.ec20.specs.Found.{At, Nowhere}
use Rattle.ec20.specs.Judged.{Judged}
use Rattle.ec20.specs.Judged.{Fine}
use Rattle.ec20.specs.Moved.{Moved}
use Rattle.ec20.specs.Moved.{To, Refused}
use Rattle.ec20.specs.Verdict.{Verdict}
use Rattle.ec20.specs.Verdict.{Refused as Unfit}
use Rattle.ec20.specs.Basics.{then}
use Rattle.ec20.specs.Check.{check_for}
use Rattle.ec20.specs.Devices.{Device}
use Rattle.ec20.specs.File.{count_of, records_of}
use Rattle.ec20.specs.Move.{Block, Pool, Move, move, moved_file, block_fault, pool_fault, block_work, split_fault, place_of, judge_move, move_to, move_if, move_after, move_for}
use Rattle.moved.proofs.Taken.{taken as found-taken}
use Rattle.refusals.proofs.Refused.{one_to_eight}
use Rattle.refusals.proofs.Search.{Judges, judged-fine, judged-fault}
use Rattle.demands.specs.Demand1.{MoveNumbers}
use Rattle.demands.specs.Lines.{Accepts, Line10, Not10, Line11, Not11, Line12, Not12, Line13, First13, Line14, Lowest, Asked}
use Rattle.refusals.proofs.Tells.{Tells, tells-fine, tells-fault}
use Rattle.demands.proofs.Lines.{judged-10, some_word, judged-11, judged-12}
use Rattle.demands.proofs.Split.{judged-13}
use Rattle.demands.proofs.Places.{pool-order, pool_end, Finds, found-place, one-lowest}

module _ (v : Device) (f : List ℕ) (b : Block) (l : Pool) where
  -- what is told of the move
  data Told : Moved → Type 0 where
    by-check : {m k : ℕ} → check_for v f ≡ Unfit m k → Told (Refused m k)
    by_10 : Accepts v f → Line10 v b → Told (Refused 10 0)
    by-11 : Accepts v f → Not10 v b → Line11 v l → Told (Refused 11 0)
    by-12 : Accepts v f → Not10 v b → Not11 v l → Line12 v b → Told (Refused 12 0)
    by-13 : {k : ℕ} → Accepts v f → Not10 v b → Not11 v l → Not12 v b → First13 f b k → Told (Refused 13 k)
    by-14 : Asked v f b l → Line14 v f b l → Told (Refused 14 0)
    taken : {q : ℕ} → Asked v f b l → Lowest v f b l q → Told (To q)

  -- ---- the mover answers so

  by_order : Accepts v f → (x y z s : Judged) (p : Found) → Tells 10 (Line10 v b) x → Tells 11 (Line11 v l) y → (Not10 v b → Tells 12 (Line12 v b) z)
      → (Not10 v b → Judges 13 (count_of f) (Line13 f b) s)
      → (Not10 v b → Not11 v l → Finds v f b l p)
      → Told (move_if (then x (then y (then z s))) p f b).answer
  by_order ok (Err r) y z s p g h i j q = rw (g.0, g.1) (by_10 ok g.2)
  by_order ok Fine (Err r) z s p g h i j q = rw (h.0, h.1) (by-11 ok g h.2)
  by_order ok Fine Fine (Err r) s p g h i j q = let t = i g in rw (t.0, t.1) (by-12 ok g h t.2)
  by_order ok Fine Fine Fine (Err r) p g h i j q = let t = j g in rw t.0 (by-13 ok g h (i g) t.1)
  by_order ok Fine Fine Fine Fine (At p) g h i j q =
      taken (record { accepts = ok; not_10 = g; not_11 = h; not_12 = i g; not_13 = j g }) (q g h)
  by_order ok Fine Fine Fine Fine Nowhere g h i j q =
      by-14 (record { accepts = ok; not_10 = g; not_11 = h; not_12 = i g; not_13 = j g }) (q g h)

  by-verdict : (x : Verdict) → check_for v f ≡ x → Told (move_after v x f b l).answer
  unfolding judge_move
  by-verdict (Ok a) c =
      let ok : Accepts v f = (a.records, a.steps, c) in
      by_order ok (block_fault v b) (pool_fault v l) (block_work v b) (split_fault (records_of f) b) (place_of v (records_of f) b l)
      (judged-10 v b) (judged-11 v l) (judged-12 v b) (λ h. judged-13 v f b ok (some_word v b h))
      (λ h i. found-place v f b l ok (some_word v b h) (pool-order v l i) (pool_end v l i))
  by-verdict (Err r) c = by-check c

  told : Told (move_for v f b l).answer
  unfolding move_for
  told = by-verdict (check_for v f) refl

  -- ---- and no other answer is told

  answered : {x y z s : Judged} {p : Found} → Accepts v f → block_fault v b ≡ x → pool_fault v l ≡ y → block_work v b ≡ z
      → split_fault (records_of f) b ≡ s
      → place_of v (records_of f) b l ≡ p
      → (move_for v f b l).answer ≡ (move_if (then x (then y (then z s))) p f b).answer
  unfolding move_for judge_move
  answered ok g h i j q = rw (ok.2, g, h, i, j, q)

  fine-10 : Not10 v b → block_fault v b ≡ Fine
  fine-10 h = tells-fine 10 (Line10 v b) (block_fault v b) (judged-10 v b) h

  fine-11 : Not11 v l → pool_fault v l ≡ Fine
  fine-11 h = tells-fine 11 (Line11 v l) (pool_fault v l) (judged-11 v l) h

  fine-12 : Not10 v b → Not12 v b → block_work v b ≡ Fine
  fine-12 g h = tells-fine 12 (Line12 v b) (block_work v b) (judged-12 v b g) h

  fine-13 : Asked v f b l → split_fault (records_of f) b ≡ Fine
  fine-13 a = judged-fine 13 (count_of f) (Line13 f b) (split_fault (records_of f) b) (judged-13 v f b a.accepts (some_word v b a.not_10)) a.not_13

  found : Asked v f b l → Finds v f b l (place_of v (records_of f) b l)
  found a = found-place v f b l a.accepts (some_word v b a.not_10) (pool-order v l a.not_11) (pool_end v l a.not_11)

  nowhere : (x : Found) → Finds v f b l x → Line14 v f b l → x ≡ Nowhere
  nowhere (At q) h n = absurd (n q h.right)
  nowhere Nowhere h n = refl

  at-lowest : (x : Found) (q : ℕ) → Finds v f b l x → Lowest v f b l q → x ≡ At q
  at-lowest (At p) q h n = ap At (one-lowest v f b l p q h n)
  at-lowest Nowhere q h n = absurd (h q n.right)

  of-asked : {p : Found} → Asked v f b l → place_of v (records_of f) b l ≡ p → (move_for v f b l).answer ≡ (move_to p f b).answer
  of-asked a e = answered a.accepts (fine-10 a.not_10) (fine-11 a.not_11) (fine-12 a.not_10 a.not_12) (fine-13 a) e

  answer : {r : Moved} → Told r → (move_for v f b l).answer ≡ r
  unfolding move_for
  answer (by-check {m} {k} e) = ap (λ (x : Verdict). (move_after v x f b l).answer) e
  answer (by_10 ok h) = answered ok (tells-fault 10 (Line10 v b) (block_fault v b) (judged-10 v b) h) refl refl refl refl
  answer (by-11 ok g h) = answered ok (fine-10 g) (tells-fault 11 (Line11 v l) (pool_fault v l) (judged-11 v l) h) refl refl refl
  answer (by-12 ok g h i) =
      answered ok (fine-10 g) (fine-11 h) (tells-fault 12 (Line12 v b) (block_work v b) (judged-12 v b g) i) refl refl
  answer (by-13 {k} ok g h i j) =
      answered ok (fine-10 g) (fine-11 h) (fine-12 g i)
      (judged-fault 13 (count_of f) (Line13 f b) k (split_fault (records_of f) b) (judged-13 v f b ok (some_word v b g)) j)
      refl
  answer (by-14 a h) = of-asked a (nowhere (place_of v (records_of f) b l) (found a) h)
  answer (taken {q} a h) = of-asked a (at-lowest (place_of v (records_of f) b l) q (found a) h)

  -- ---- number by number

  pub record Says (m k : ℕ) : Type 0 where
    pub check : m ≤ 8 → check_for v f ≡ Unfit m k
    pub ten : m ≡ 10 → (k ≡ 0) × Accepts v f × Line10 v b
    pub eleven : m ≡ 11 → (k ≡ 0) × Accepts v f × Not10 v b × Line11 v l
    pub twelve : m ≡ 12 → (k ≡ 0) × Accepts v f × Not10 v b × Not11 v l × Line12 v b
    pub thirteen : m ≡ 13 → Accepts v f × Not10 v b × Not11 v l × Not12 v b × First13 f b k
    pub fourteen : m ≡ 14 → (k ≡ 0) × Asked v f b l × Line14 v f b l
    pub no_other : (1 ≤ m) × ((m ≤ 8) ⊎ ((10 ≤ m) × (m ≤ 14)))

  abbrev Said : Moved → Type 0
  Said (To q) = Asked v f b l × Lowest v f b l q
  Said (Err r) = Says r.number r.at

  said : {r : Moved} → Told r → Said r
  said (by-check {m} {k} e) =
      let s = one_to_eight v f m k e in
      record {
        check = λ _. e;
        ten = λ q. absurd (omega (arith, s.1, q));
        eleven = λ q. absurd (omega (arith, s.1, q));
        twelve = λ q. absurd (omega (arith, s.1, q));
        thirteen = λ q. absurd (omega (arith, s.1, q));
        fourteen = λ q. absurd (omega (arith, s.1, q));
        no_other = (s.0, inl s.1);
      }
  said (by_10 ok h) =
      record {
        check = λ q. absurd (omega arith);
        ten = λ _. (refl, ok, h);
        eleven = λ q. absurd (omega arith);
        twelve = λ q. absurd (omega arith);
        thirteen = λ q. absurd (omega arith);
        fourteen = λ q. absurd (omega arith);
        no_other = (omega arith, inr (omega arith, omega arith));
      }
  said (by-11 ok g h) =
      record {
        check = λ q. absurd (omega arith);
        ten = λ q. absurd (omega arith);
        eleven = λ _. (refl, ok, g, h);
        twelve = λ q. absurd (omega arith);
        thirteen = λ q. absurd (omega arith);
        fourteen = λ q. absurd (omega arith);
        no_other = (omega arith, inr (omega arith, omega arith));
      }
  said (by-12 ok g h i) =
      record {
        check = λ q. absurd (omega arith);
        ten = λ q. absurd (omega arith);
        eleven = λ q. absurd (omega arith);
        twelve = λ _. (refl, ok, g, h, i);
        thirteen = λ q. absurd (omega arith);
        fourteen = λ q. absurd (omega arith);
        no_other = (omega arith, inr (omega arith, omega arith));
      }
  said (by-13 ok g h i j) =
      record {
        check = λ q. absurd (omega arith);
        ten = λ q. absurd (omega arith);
        eleven = λ q. absurd (omega arith);
        twelve = λ q. absurd (omega arith);
        thirteen = λ _. (ok, g, h, i, j);
        fourteen = λ q. absurd (omega arith);
        no_other = (omega arith, inr (omega arith, omega arith));
      }
  said (by-14 a h) =
      record {
        check = λ q. absurd (omega arith);
        ten = λ q. absurd (omega arith);
        eleven = λ q. absurd (omega arith);
        twelve = λ q. absurd (omega arith);
        thirteen = λ q. absurd (omega arith);
        fourteen = λ _. (refl, a, h);
        no_other = (omega arith, inr (omega arith, omega arith));
      }
  said (taken a h) = (a, h)

  says : {r : Moved} → (move_for v f b l).answer ≡ r → Said r
  says e = subst Said e (said told)

  -- a refused call leaves the file
  kept-found : (x : Found) (m k : ℕ) → (move_to x f b).answer ≡ Refused m k → (move_to x f b).file ≡ f
  kept-found (At q) m k e = let z : ◌≡◌ {A = ℕ} 0 1 = cc in absurd (omega arith)
  kept-found Nowhere m k e = refl

  kept-judged : (x : Judged) (p : Found) (m k : ℕ) → (move_if x p f b).answer ≡ Refused m k → (move_if x p f b).file ≡ f
  kept-judged Fine p m k e = kept-found p m k e
  kept-judged (Err r) p m k e = refl

  kept-verdict : (x : Verdict) (m k : ℕ) → (move_after v x f b l).answer ≡ Refused m k → (move_after v x f b l).file ≡ f
  kept-verdict (Ok a) m k e = kept-judged (judge_move v (records_of f) b l) (place_of v (records_of f) b l) m k e
  kept-verdict (Err r) m k e = refl

  move-kept : (m k : ℕ) → (move_for v f b l).answer ≡ Refused m k → (move_for v f b l).file ≡ f
  unfolding move_for
  move-kept m k e = kept-verdict (check_for v f) m k e

  move-moved : (q : ℕ) → (move_for v f b l).answer ≡ To q → (move_for v f b l).file ≡ moved_file b q f
  move-moved q e =
      let g = (move_for v f b l).file in
      sym (found-taken v f b l q g (ap (λ (a : Moved). move a g) e)).file

  pub move_numbers : MoveNumbers v f b l (move_for v f b l)
  move_numbers = record {
    one_to_eight = λ m k h. (λ e. (says e).check h, λ e. answer (by-check e));
    ten = λ k. (λ e. (says e).ten refl, λ c. answer (by_10 c.1 c.2) ∙ ap (Refused 10) (sym c.0));
    eleven = λ k. (λ e. (says e).eleven refl, λ c. answer (by-11 c.1 c.2 c.3) ∙ ap (Refused 11) (sym c.0));
    twelve = λ k. (λ e. (says e).twelve refl, λ c. answer (by-12 c.1 c.2 c.3 c.4) ∙ ap (Refused 12) (sym c.0));
    thirteen = λ k. (λ e. (says e).thirteen refl, λ c. answer (by-13 c.0 c.1 c.2 c.3 c.4));
    fourteen = λ k. (λ e. (says e).fourteen refl, λ c. answer (by-14 c.1 c.2) ∙ ap (Refused 14) (sym c.0));
    place = λ q. (λ e. says e, λ c. answer (taken c.0 c.1));
    moved = move-moved;
    no_other = λ m k e. (says e).no_other;
    unchanged = move-kept;
  }

  -- what is told, an answer for which the lines hold is
  module _ (m : Move) (n : MoveNumbers v f b l m) where
    same_answer : {r : Moved} → Told r → m.answer ≡ r
    same_answer (by-check {m = i} {k} e) = (n.one_to_eight i k (omega (arith, (one_to_eight v f i k e).1))).1 e
    same_answer (by_10 ok h) = (n.ten 0).1 (refl, ok, h)
    same_answer (by-11 ok g h) = (n.eleven 0).1 (refl, ok, g, h)
    same_answer (by-12 ok g h i) = (n.twelve 0).1 (refl, ok, g, h, i)
    same_answer (by-13 {k} ok g h i j) = (n.thirteen k).1 (ok, g, h, i, j)
    same_answer (by-14 a h) = (n.fourteen 0).1 (refl, a, h)
    same_answer (taken {q} a h) = (n.place q).1 (a, h)

    same-file : (r : Moved) → m.answer ≡ r → (move_for v f b l).answer ≡ r → m.file ≡ (move_for v f b l).file
    same-file (To q) x y = n.moved q x ∙ sym (move-moved q y)
    same-file (Err r) x y = n.unchanged r.number r.at x ∙ sym (move-kept r.number r.at y)

    pub move-only : m ≡ move_for v f b l
    move-only = let a = same_answer told in ap₂ move a (same-file (move_for v f b l).answer a refl)
