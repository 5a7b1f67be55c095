-- THE MOVER'S TABLE OF REFUSALS: the mover answers as the table says (told), and the table says one answer (answer). Assumes nothing.
use Prim.Native.Nat.{ℕ, ◌≤◌}
use mathlib.Core.List.{List}
use mathlib.Core.Path.{◌≡◌, refl, sym, ap, ◌∙◌}
use native.Mathlib.Omega.{arith}
use Rattle.std.specs.Prelude.{Err, Ok}
use Rattle.ec20.proofs.NoFault.{accepted-records}
use Rattle.ec20.proofs.Tests.{one_answer}
use Rattle.ec20.specs.Basics.{then}
use Rattle.ec20.specs.Check.{check_for}
use Rattle.ec20.specs.Devices.{Device, ec20}
use Rattle.ec20.specs.File.{count_of, records_of}
use Rattle.ec20.specs.Move.{Block, Pool, Move, block_fault, pool_fault, block_work, split_fault, judge_move, place_of, move_to, move_if, move_after, move_for, move_of}
use Rattle.ec20.specs.Operands.{first_bad}
use Rattle.ec20.specs.Found.{Found}
use Rattle.ec20.specs.Found.{At, Nowhere}
use Rattle.ec20.specs.Judged.{Judged}
use Rattle.ec20.specs.Judged.{Fine}
use Rattle.ec20.specs.Moved.{Moved}
use Rattle.ec20.specs.Verdict.{Verdict}
use Rattle.lines.proofs.LineLaws.{judged-10, judged-11, judged-12, judged-13, some_words, pool-order, pool-words}
use Rattle.lines.specs.Lines.{Line10, Line11, Line12, Line13}
use Rattle.lines.specs.Table.{Passes, Not10, Not11, Not12, Not13, Told, told_1_8, told_10, told_11, told_12, told_13, told_14, moved}
use Rattle.places.proofs.Theorems.{the-place, no_place}
use Rattle.places.specs.Right.{Right}
use Rattle.refusals.proofs.Tells.{Tells, tells-fine, tells-fault}
use Rattle.refusals.proofs.Search.{Judges, judged-fine, judged-fault}
use Rattle.refusals.specs.Table.{record_at}

-- two results that meet the contract are equal: answer and file
pub one-move : (f : List ℕ) (b : Block) (l : Pool) {r s : Move} → r ≡ move_of f b l → s ≡ move_of f b l → r ≡ s
one-move f b l = one_answer

-- an accepted file has no record that 2, 3 or 4 refuses
sound : (v : Device) (f : List ℕ) → Passes v f → first_bad v (records_of f) ≡ Fine
sound v f w = accepted-records v f w.records w.steps w.accepted

module _ (v : Device) (f : List ℕ) (b : Block) (l : Pool) where
  abbrev line-13 : ℕ → Type 0
  line-13 k = Line13 b (record_at f k)

  -- what the search for a place says
  abbrev Finds : Found → Type 0
  Finds (At q) = Right v (records_of f) b l q × ((p : ℕ) → Right v (records_of f) b l p → q ≤ p)
  Finds Nowhere = (p : ℕ) → Right v (records_of f) b l p → ⊥

  finds : Passes v f → Not10 v b → Not11 v l → Finds (place_of v (records_of f) b l)
  finds w x y = go (place_of v (records_of f) b l) refl
    where
      go : (z : Found) → place_of v (records_of f) b l ≡ z → Finds z
      go (At q) e = the-place v (records_of f) b l (some_words v b x) (pool-order v l y) (pool-words v l y) (sound v f w) q e
      go Nowhere e = no_place v (records_of f) b l (some_words v b x) (pool-order v l y) (pool-words v l y) (sound v f w) e

  finds-at : (q : ℕ) → Right v (records_of f) b l q → ((p : ℕ) → Right v (records_of f) b l p → q ≤ p) → (z : Found) → Finds z → z ≡ At q
  finds-at q r low (At p) h =
      let x : q ≤ p = low p h.0 in
      let y : p ≤ q = h.1 q r in
      let e : p ≡ q = omega arith in
      ap At e
  finds-at q r low Nowhere h = absurd (h q r)

  finds-none : ((p : ℕ) → Right v (records_of f) b l p → ⊥) → (z : Found) → Finds z → z ≡ Nowhere
  finds-none none (At q) h = absurd (none q h.0)
  finds-none none Nowhere h = refl

  -- ---- the mover answers as the table says

  by_place : Passes v f → Not10 v b → Not11 v l → Not12 v b → Not13 f b → (z : Found) → Finds z → Told v f b l (move_to z f b).answer
  by_place w x y u s (At q) h = moved w x y u s h.0 h.1
  by_place w x y u s Nowhere h = told_14 w x y u s h

  -- 10, then 11, then 12, then 13, then 14
  by_order : Passes v f → (i j k m : Judged) (z : Found) → Tells 10 (Line10 v b) i → Tells 11 (Line11 v l) j → (Not10 v b → Tells 12 (Line12 v b) k)
      → (Not10 v b → Judges 13 (count_of f) line-13 m)
      → (Not10 v b → Not11 v l → Finds z)
      → Told v f b l (move_if (then i (then j (then k m))) z f b).answer
  by_order w (Err _) j k m z x y u s h = rw (x.0, x.1) (told_10 w x.2)
  by_order w Fine (Err _) k m z x y u s h = rw (y.0, y.1) (told_11 w x y.2)
  by_order w Fine Fine (Err _) m z x y u s h = let t = u x in rw (t.0, t.1) (told_12 w x y t.2)
  by_order w Fine Fine Fine (Err _) z x y u s h = let t = s x in rw t.0 (told_13 w x y (u x) t.1)
  by_order w Fine Fine Fine Fine z x y u s h = by_place w x y (u x) (s x) z (h x y)

  by-verdict : (r : Verdict) → check_for v f ≡ r → Told v f b l (move_after v r f b l).answer
  unfolding judge_move
  by-verdict (Err r) e = told_1_8 e
  by-verdict (Ok a) e =
      let w : Passes v f = record { records = a.records; steps = a.steps; accepted = e } in
      by_order w (block_fault v b) (pool_fault v l) (block_work v b) (split_fault (records_of f) b) (place_of v (records_of f) b l)
      (judged-10 v b) (judged-11 v l) (judged-12 v b) (λ x. judged-13 (records_of f) b (some_words v b x)) (finds w)

  pub told : Told v f b l (move_for v f b l).answer
  unfolding move_for
  told = by-verdict (check_for v f) refl

  -- ---- and no other answer is told

  -- the answer, by the judgements and the search
  answered : {i j k m : Judged} {z : Found} → Passes v f → block_fault v b ≡ i → pool_fault v l ≡ j → block_work v b ≡ k → split_fault (records_of f) b ≡ m
      → place_of v (records_of f) b l ≡ z
      → (move_for v f b l).answer ≡ (move_if (then i (then j (then k m))) z f b).answer
  unfolding move_for judge_move
  answered w i j k m z = rw (w.accepted, i, j, k, m, z) refl

  none-10 : Not10 v b → block_fault v b ≡ Fine
  none-10 x = tells-fine 10 (Line10 v b) (block_fault v b) (judged-10 v b) x

  none-11 : Not11 v l → pool_fault v l ≡ Fine
  none-11 x = tells-fine 11 (Line11 v l) (pool_fault v l) (judged-11 v l) x

  none-12 : Not10 v b → Not12 v b → block_work v b ≡ Fine
  none-12 x y = tells-fine 12 (Line12 v b) (block_work v b) (judged-12 v b x) y

  none-13 : Not10 v b → Not13 f b → split_fault (records_of f) b ≡ Fine
  none-13 x y = judged-fine 13 (count_of f) line-13 (split_fault (records_of f) b) (judged-13 (records_of f) b (some_words v b x)) y

  -- what the table says is the mover's answer
  pub answer : {r : Moved} → Told v f b l r → (move_for v f b l).answer ≡ r
  unfolding move_for
  answer (told_1_8 e) = ap (λ (r : Verdict). (move_after v r f b l).answer) e
  answer (told_10 w h) = answered w (tells-fault 10 (Line10 v b) (block_fault v b) (judged-10 v b) h) refl refl refl refl
  answer (told_11 w x h) = answered w (none-10 x) (tells-fault 11 (Line11 v l) (pool_fault v l) (judged-11 v l) h) refl refl refl
  answer (told_12 w x y h) = answered w (none-10 x) (none-11 y) (tells-fault 12 (Line12 v b) (block_work v b) (judged-12 v b x) h) refl refl
  answer (told_13 {k = k} w x y u h) =
      answered w (none-10 x) (none-11 y) (none-12 x u)
      (judged-fault 13 (count_of f) line-13 k (split_fault (records_of f) b) (judged-13 (records_of f) b (some_words v b x)) h)
      refl
  answer (told_14 w x y u s h) =
      answered w (none-10 x) (none-11 y) (none-12 x u) (none-13 x s) (finds-none h (place_of v (records_of f) b l) (finds w x y))
  answer (moved {q = q} w x y u s r low) =
      answered w (none-10 x) (none-11 y) (none-12 x u) (none-13 x s) (finds-at q r low (place_of v (records_of f) b l) (finds w x y))

-- the table determines the answer
pub only : {v : Device} {f : List ℕ} {b : Block} {l : Pool} {r s : Moved} → Told v f b l r → Told v f b l s → r ≡ s
only {v} {f} {b} {l} x y = sym (answer v f b l x) ∙ answer v f b l y

-- the mover of an EC20 file
pub told_of : (f : List ℕ) (b : Block) (l : Pool) → Told ec20 f b l (move_of f b l).answer
unfolding move_of
told_of f b l = told ec20 f b l
