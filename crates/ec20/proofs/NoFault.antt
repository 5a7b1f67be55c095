-- What it says that nothing is refused: of judgements, of block, pool and place, of a record, of a whole file. Assumes nothing.
use Prim.Native.Nat.{ℕ, ◌+◌, ◌-◌, ◌*◌, ◌≤◌, ◌<◌}
use mathlib.Core.Bool.{Bool, true, false, not, ◌&&◌}
use mathlib.Core.List.{List}
use mathlib.Core.Path.{◌≡◌, refl}
use native.Mathlib.Omega.{arith}
use lib.ListN.{length}
use lib.Dec.{ltb, leb, eqb}
use borrow.Author.Tests.{ltb-true, leb-true, not-true}
use Rattle.std.specs.Prelude.{Err}
use Rattle.ec20.proofs.Parts.{accepted-parts}
use Rattle.ec20.proofs.Tests.{both, each}
use Rattle.ec20.specs.Basics.{pick, then}
use Rattle.ec20.specs.Check.{judge_program, judge_file, verdict_of, check_for, w_of}
use Rattle.ec20.specs.Code.{Program, program_of}
use Rattle.ec20.specs.Devices.{Device, meets, inside, meets_work}
use Rattle.ec20.specs.Exchange.{place_fault}
use Rattle.ec20.specs.File.{Records, edition_of, count_of, distance_of, first_of, framed, records_of}
use Rattle.ec20.specs.Move.{Block, block, Pool, touches, block_fault, pool_fault, is_place}
use Rattle.ec20.specs.Operands.{is_known, operands_ok, target_in_work, fault_of, fault_in, first_bad}
use Rattle.ec20.specs.Table.{row_of}
use Rattle.ec20.specs.UseMap.{some_record}
use Rattle.ec20.specs.Judged.{Judged}
use Rattle.ec20.specs.Judged.{Fine, Fault}
use Rattle.ec20.specs.declared.Rec.{Rec}
use Rattle.ec20.specs.Verdict.{Accepted, Refused}

-- no fault: the test holds
pub passed : (t : Bool) (m k : ℕ) → pick t Fine (Fault m k) ≡ Fine → t ≡ true
passed true m k e = refl
passed false m k e = let z : ◌≡◌ {A = ℕ} 0 1 = cc in absurd (omega arith)

-- nothing is refused of two judgements: of neither
pub then-fine : (a b : Judged) → then a b ≡ Fine → (a ≡ Fine) × (b ≡ Fine)
then-fine Fine b e = (refl, e)
then-fine (Err r) b e = let z : ◌≡◌ {A = ℕ} 0 1 = cc in absurd (omega arith)

-- ---- block, pool and place

module _ (v : Device) where
  -- 10: the block is not empty, and inside D
  pub block_inside : (b : Block) → block_fault v b ≡ Fine → (0 < b.length) × (b.start + b.length ≤ v.words)
  unfolding block_fault
  block_inside b e =
      let h = both (ltb 0 b.length) (leb (b.start + b.length) v.words) (passed _ 10 0 e) in
      (ltb-true _ _ h.0, leb-true _ _ h.1)

  -- 11: the pool's start is at most its end, and that at most the device's last word
  pub pool-inside : (l : Pool) → pool_fault v l ≡ Fine → (l.start ≤ l.end) × (l.end ≤ v.words)
  unfolding pool_fault
  pool-inside l e =
      let h = both (leb l.start l.end) (leb l.end v.words) (passed _ 11 0 e) in
      (leb-true _ _ h.0, leb-true _ _ h.1)

  -- 14, of the exchange: the place is inside D, and does not meet the block
  pub place_inside : (b : Block) (q : ℕ) → place_fault v b q ≡ Fine
      → (q + b.length ≤ v.words) × (meets q b.length b.start b.length ≡ false)
  unfolding place_fault
  place_inside b q e =
      let h = both (leb (q + b.length) v.words && not (meets q b.length b.start b.length)) (not (meets_work v q b.length)) (passed _ 14 0 e) in
      let g = both (leb (q + b.length) v.words) (not (meets q b.length b.start b.length)) h.0 in
      (leb-true _ _ g.0, not-true _ g.1)

-- a start that passes: the place lies in the pool, meets neither block nor WORK, and no operand's extent meets it
pub place-parts : (v : Device) (rs : Records) (b : Block) (l : Pool) (q : ℕ) → is_place v rs b l q ≡ true
    → (inside q b.length l.start (l.end - l.start) ≡ true) × (meets q b.length b.start b.length ≡ false)
    × (meets_work v q b.length ≡ false) × (some_record (touches (block q b.length)) rs ≡ false)
unfolding is_place
place-parts v rs b l q e =
    let A : Bool = inside q b.length l.start (l.end - l.start) in
    let B : Bool = not (meets q b.length b.start b.length) in
    let C : Bool = not (meets_work v q b.length) in
    let x = both (A && B && C) (not (some_record (touches (block q b.length)) rs)) e in
    let y = each A B C x.0 in
    (y.0, not-true _ y.1, not-true _ y.2, not-true _ x.1)

-- ---- a record

-- not at fault: known, each operand allowed, no target in WORK
pub record-fine : (v : Device) (r : Rec) → fault_in v r ≡ 0
    → (is_known (row_of r.number) r ≡ true) × (operands_ok v (row_of r.number) r ≡ true) × (target_in_work v (row_of r.number) r ≡ false)
unfolding fault_in fault_of
record-fine v r e = go (is_known (row_of r.number) r) (operands_ok v (row_of r.number) r) (target_in_work v (row_of r.number) r) e
  where
    go : (a b c : Bool) → ◌≡◌ {A = ℕ} (pick (not a) 2 (pick (not b) 3 (pick c 4 0))) 0 → (a ≡ true) × (b ≡ true) × (c ≡ false)
    go true true true e = absurd (omega arith)
    go true true false e = (refl, refl, refl)
    go true false c e = absurd (omega arith)
    go false b c e = absurd (omega arith)

-- ---- a file

-- accepted: framed, no fault, and the records and steps that are told
parts : (t : Bool) (p : Program) (j : Judged) (n w : ℕ) → pick t (verdict_of p j) (Refused 1 0) ≡ Accepted n w
    → (t ≡ true) × (j ≡ Fine) × (p.count ≡ n) × (w_of p ≡ w)
parts true p Fine n w e = let z = accepted-parts p.count (w_of p) n w e in (refl, refl, z.0, z.1)
parts true p (Err r) n w e = let z : ◌≡◌ {A = ℕ} 0 1 = cc in absurd (omega arith)
parts false p j n w e = let z : ◌≡◌ {A = ℕ} 0 1 = cc in absurd (omega arith)

-- a frame that is right has a record
pub framed-some : (f : List ℕ) → framed f ≡ true → 1 ≤ count_of f
unfolding framed
framed-some f e =
    let a = both _ (leb (first_of f) 4096) e in
    let b = both _ (leb (distance_of f) (length f)) a.0 in
    let c = both _ (eqb (distance_of f) (20 * count_of f + 8)) b.0 in
    let d = both _ (leb (count_of f) 2000) c.0 in
    leb-true _ _ (both (leb 8 (length f) && eqb (edition_of f) 1) (leb 1 (count_of f)) d.0).1

-- an accepted file
module _ (v : Device) (f : List ℕ) (n w : ℕ) (ok : check_for v f ≡ Accepted n w) where
  told : (framed f ≡ true) × (judge_file v f ≡ Fine) × ((program_of f).count ≡ n) × (w_of (program_of f) ≡ w)
  unfolding check_for
  told = parts (framed f) (program_of f) (judge_file v f) n w ok

  judged : (first_bad v (records_of f) ≡ Fine) × (judge_program (program_of f) ≡ Fine)
  unfolding judge_file
  judged = then-fine (first_bad v (records_of f)) (judge_program (program_of f)) told.1

  pub accepted-framed : framed f ≡ true
  accepted-framed = told.0

  -- nothing of 2 to 4, nothing of 5 to 8
  pub accepted-records : first_bad v (records_of f) ≡ Fine
  accepted-records = judged.0

  pub accepted-program : judge_program (program_of f) ≡ Fine
  accepted-program = judged.1

  pub accepted-count : (program_of f).count ≡ n
  accepted-count = told.2

  -- it has a record
  pub accepted-some : 0 < (program_of f).count
  unfolding program_of
  accepted-some = let h = framed-some f accepted-framed in omega arith

  pub accepted-steps : w_of (program_of f) ≡ w
  accepted-steps = told.3
