-- What the mover has found when it answers with a place: the file accepted, nothing of 10 to 13, and a place that passes.
use Prim.Native.Nat.{ℕ, ◌+◌, ◌-◌, ◌≤◌}
use mathlib.Core.Bool.{true}
use mathlib.Core.List.{List}
use mathlib.Core.Path.{◌≡◌, refl, sym, ap, ◌∙◌}
use native.Mathlib.Omega.{arith}
use Rattle.std.specs.Prelude.{Err, Ok}
use Rattle.ec20.proofs.NoFault.{then-fine, block_inside, pool-inside, place-parts, accepted-framed, accepted-records}
use Rattle.ec20.proofs.Ranges.{is-inside}
use Rattle.ec20.specs.Basics.{then}
use Rattle.ec20.specs.Found.{Found}
use Rattle.ec20.specs.Found.{At, Nowhere}
use Rattle.ec20.specs.Judged.{Judged}
use Rattle.ec20.specs.Judged.{Fine}
use Rattle.ec20.specs.Moved.{To, Refused}
use Rattle.ec20.specs.Verdict.{Verdict}
use Rattle.ec20.specs.Check.{check_for}
use Rattle.ec20.specs.Devices.{Device}
use Rattle.ec20.specs.File.{framed, records_of}
use Rattle.ec20.specs.Move.{Block, Pool, Move, move, block_fault, pool_fault, block_work, split_fault, is_place, place_of, moved_file}
use Rattle.ec20.specs.Move.{judge_move, move_to, move_if, move_after, move_for}
use Rattle.ec20.specs.Operands.{first_bad}
use Rattle.bound.proofs.First.{first-at}
use Rattle.moved.specs.Placed.{Placed}

-- the mover of the device took the place at q, and left the file g
pub record Taken (v : Device) (f : List ℕ) (b : Block) (l : Pool) (q : ℕ) (g : List ℕ) : Type 0 where
  pub frame : framed f ≡ true
  pub sound : first_bad v (records_of f) ≡ Fine
  pub fine : judge_move v (records_of f) b l ≡ Fine
  pub found : place_of v (records_of f) b l ≡ At q
  pub file : moved_file b q f ≡ g

-- ---- by its answer

module _ (v : Device) (f : List ℕ) (b : Block) (l : Pool) (q : ℕ) (g : List ℕ) where
  -- a refusal is no place
  no_place : {m k : ℕ} {A : Type 0} → move (Refused m k) f ≡ move (To q) g → A
  no_place {m} {k} e =
      let t : Refused m k ≡ To q = ap (λ (x : Move). x.answer) e in
      let z : ◌≡◌ {A = ℕ} 0 1 = cc in
      absurd (omega arith)

  by-found : (x : Found) → move_to x f b ≡ move (To q) g → (x ≡ At q) × (moved_file b q f ≡ g)
  by-found (At p) e =
      let t : To p ≡ To q = ap (λ (x : Move). x.answer) e in
      let a : p ≡ q = cc t in
      (ap At a, ap (λ (i : ℕ). moved_file b i f) (sym a) ∙ ap (λ (x : Move). x.file) e)
  by-found Nowhere e = no_place e

  by-judged : (x : Judged) → move_if x (place_of v (records_of f) b l) f b ≡ move (To q) g
      → (x ≡ Fine) × (place_of v (records_of f) b l ≡ At q) × (moved_file b q f ≡ g)
  by-judged Fine e = let h = by-found (place_of v (records_of f) b l) e in (refl, h.0, h.1)
  by-judged (Err r) e = no_place e

  by-verdict : (x : Verdict) → check_for v f ≡ x → move_after v x f b l ≡ move (To q) g → Taken v f b l q g
  by-verdict (Ok a) c e =
      let h = by-judged (judge_move v (records_of f) b l) e in
      record { frame = accepted-framed v f a.records a.steps c; sound = accepted-records v f a.records a.steps c; fine = h.0; found = h.1; file = h.2 }
  by-verdict (Err r) c e = no_place e

  pub taken : move_for v f b l ≡ move (To q) g → Taken v f b l q g
  unfolding move_for
  taken e = by-verdict (check_for v f) refl e

-- ---- and what that says of block and place

module _ {v : Device} {f : List ℕ} {b : Block} {l : Pool} {q : ℕ} {g : List ℕ} (t : Taken v f b l q g) where
  after-10 : (block_fault v b ≡ Fine) × (then (pool_fault v l) (then (block_work v b) (split_fault (records_of f) b)) ≡ Fine)
  unfolding judge_move
  after-10 = then-fine (block_fault v b) _ t.fine

  after-11 : (pool_fault v l ≡ Fine) × (then (block_work v b) (split_fault (records_of f) b) ≡ Fine)
  after-11 = then-fine (pool_fault v l) _ after-10.1

  -- nothing of 10 and 12 refuses the block
  pub block-fine : block_fault v b ≡ Fine
  block-fine = after-10.0

  pub block-off-work : block_work v b ≡ Fine
  block-off-work = (then-fine (block_work v b) _ after-11.1).0

  pool-in : (l.start ≤ l.end) × (l.end ≤ v.words)
  pool-in = pool-inside v l after-11.0

  is-place : is_place v (records_of f) b l q ≡ true
  unfolding place_of
  is-place = (first-at (is_place v (records_of f) b l) (l.end - l.start) l.start q t.found).passes

  pub placed : Placed v (records_of f) b q
  placed =
      let h = place-parts v (records_of f) b l q is-place in
      let in_pool : q + b.length ≤ l.start + (l.end - l.start) = (is-inside q b.length l.start (l.end - l.start) h.0).1 in
      record {
        sound = t.sound;
        unsplit = (then-fine (block_work v b) _ after-11.1).1;
        two = record { block_in = (block_inside v b block-fine).1; place_in = omega (arith, in_pool, pool-in.0, pool-in.1); apart = h.1 };
        off_work = h.2;
        unused = h.3;
      }
