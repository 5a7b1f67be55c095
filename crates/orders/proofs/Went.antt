-- A move to a named place that is accepted: what it has found, and what makes it so. Assumes nothing.
use Prim.Native.Nat.{ℕ, zero, suc, ◌+◌, ◌-◌, ◌<◌}
use mathlib.Core.Bool.{Bool, true}
use mathlib.Core.List.{List}
use mathlib.Core.Path.{◌≡◌, refl, sym, ap, ap₂, ◌∙◌}
use native.Mathlib.Omega.{arith}
use Rattle.std.specs.Prelude.{Err, Ok}
use Rattle.bound.proofs.First.{first-at}
use Rattle.ec20.proofs.NoFault.{block_inside}
use Rattle.ec20.specs.Basics.{first_at}
use Rattle.ec20.specs.Check.{check_for}
use Rattle.ec20.specs.Devices.{Device}
use Rattle.ec20.specs.File.{records_of}
use Rattle.ec20.specs.Move.{Block, Pool, Move, move, is_place, place_of, moved_file, judge_move, move_if, move_after, move_for}
use Rattle.ec20.specs.Found.{Found}
use Rattle.ec20.specs.Found.{At}
use Rattle.ec20.specs.Judged.{Judged}
use Rattle.ec20.specs.Judged.{Fine}
use Rattle.ec20.specs.Moved.{Moved}
use Rattle.ec20.specs.Moved.{To}
use Rattle.ec20.specs.Verdict.{Verdict}
use Rattle.ec20.specs.Verdict.{Accepted}
use Rattle.jobs.proofs.Laws.{named}
use Rattle.jobs.specs.Tasks.{Task, pool_of, move_by}
use Rattle.moved.proofs.Taken.{Taken, taken, block-fine}
use Rattle.orders.specs.Two.{Goes}

-- a search that ends where it begins
first-here : (test : ℕ → Bool) (k n : ℕ) → 0 < n → test k ≡ true → first_at test k n ≡ At k
unfolding first_at
first-here test k zero h e = absurd (omega arith)
first-here test k (suc n) h e = rw e

-- a file of which some move is accepted is accepted
accepted-by : (v : Device) (f : List ℕ) (b : Block) (l : Pool) (q : ℕ) → (move_for v f b l).answer ≡ To q → (n w : ℕ) × (check_for v f ≡ Accepted n w)
unfolding move_for
accepted-by v f b l q e = go (check_for v f) refl e
  where
    go : (x : Verdict) → check_for v f ≡ x → (move_after v x f b l).answer ≡ To q → (n w : ℕ) × (check_for v f ≡ Accepted n w)
    go (Ok a) c e = (a.records, a.steps, c)
    go (Err r) c e = let z : ◌≡◌ {A = ℕ} 0 1 = cc in absurd (omega arith)

-- the file after a move by a task
abbrev pub file_by : Task → List ℕ → List ℕ
file_by t f = moved_file t.block t.place f

-- the move by the task is accepted, at the place that is named
pub record Went (v : Device) (f : List ℕ) (t : Task) : Type 0 where
  pub answer : move_by v f t ≡ move (To t.place) (file_by t f)

module _ {v : Device} {f : List ℕ} {t : Task} (w : Went v f t) where
  pub found : Taken v f t.block (pool_of t) t.place (file_by t f)
  found = taken v f t.block (pool_of t) t.place (file_by t f) w.answer

  pub is-place : is_place v (records_of f) t.block (pool_of t) t.place ≡ true
  unfolding place_of
  is-place =
      (first-at (is_place v (records_of f) t.block (pool_of t)) ((pool_of t).end - (pool_of t).start) (pool_of t).start t.place found.found).passes

  pub some_word : 0 < t.block.length
  some_word = (block_inside v t.block (block-fine found)).0

  pub accepted : (n k : ℕ) × (check_for v f ≡ Accepted n k)
  accepted = accepted-by v f t.block (pool_of t) t.place (ap (λ (m : Move). m.answer) w.answer)

  pub the-file : (move_by v f t).file ≡ file_by t f
  the-file = ap (λ (m : Move). m.file) w.answer

  pub the-answer : (move_by v f t).answer ≡ To t.place
  the-answer = ap (λ (m : Move). m.answer) w.answer

pub went : (v : Device) (f : List ℕ) (t : Task) → Goes v f t → Went v f t
went v f t (q, e) =
    let g : List ℕ = (move_by v f t).file in
    let m : move_by v f t ≡ move (To q) g = ap (λ (x : Moved). move x g) e in
    let k = taken v f t.block (pool_of t) q g m in
    let z : q ≡ t.place = named v f t q e in
    record { answer = m ∙ ap (move (To q)) (sym k.file) ∙ ap (λ (i : ℕ). move (To i) (moved_file t.block i f)) z }

-- nothing refuses it, and the place is one: it is accepted
pub goes-if : (v : Device) (f : List ℕ) (t : Task) (n w : ℕ) → check_for v f ≡ Accepted n w → 0 < t.block.length
    → judge_move v (records_of f) t.block (pool_of t) ≡ Fine
    → is_place v (records_of f) t.block (pool_of t) t.place ≡ true
    → Went v f t
unfolding move_for place_of
goes-if v f t n w c some fine place =
    let at : place_of v (records_of f) t.block (pool_of t) ≡ At t.place =
    first-here (is_place v (records_of f) t.block (pool_of t)) t.place (t.place + t.block.length - t.place) (omega arith) place in
    record {
      answer =
          ap (λ (x : Verdict). move_after v x f t.block (pool_of t)) c
          ∙ ap₂ (λ (j : Judged) (x : Found). move_if j x f t.block) fine at;
    }
