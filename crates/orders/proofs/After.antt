-- The file after an accepted move by the task s: which moves it then accepts. Another task whose block and place the place of s does not meet, if it was
-- accepted before; and the way back. Assumes nothing.
use Prim.Native.Nat.{ℕ, ◌+◌, ◌-◌, ◌≤◌, ◌<◌, ◌^◌}
use mathlib.Core.Bool.{Bool, true, false, not, ◌&&◌, ◌||◌}
use mathlib.Core.List.{List}
use mathlib.Core.Logic.{inl, inr}
use mathlib.Core.Path.{◌≡◌, refl, sym, ap, ap₂, ◌∙◌}
use native.Mathlib.Omega.{arith}
use borrow.Author.Tests.{lt-ltb, le-leb}
use Rattle.blocks.proofs.Swapped.{Clear, clear, not-meets}
use Rattle.bound.proofs.Accepted.{none-refused}
use Rattle.bound.proofs.First.{no-first}
use Rattle.ec20.proofs.Ranges.{inside-yes}
use Rattle.ec20.proofs.Some.{some_at, none-at}
use Rattle.ec20.proofs.Tests.{differ, is_false}
use Rattle.ec20.specs.Basics.{pick, first_at, some_from, then}
use Rattle.ec20.specs.Check.{check_for}
use Rattle.ec20.specs.Devices.{Device, meets, inside, meets_work}
use Rattle.ec20.specs.File.{count_of, records_of}
use Rattle.ec20.specs.Move.{Block, block, touches, partly, block_fault, pool_fault, block_work, split_fault, is_place, judge_move}
use Rattle.ec20.specs.Operands.{in_d, start_of, extent_of}
use Rattle.ec20.specs.UseMap.{some_operand, record_has, some_record}
use Rattle.ec20.specs.Found.{Nowhere}
use Rattle.ec20.specs.Judged.{Judged}
use Rattle.ec20.specs.Judged.{Fine, Fault}
use Rattle.ec20.specs.declared.Operand.{Operand}
use Rattle.ec20.specs.declared.Place.{Place}
use Rattle.demands.specs.Demand3.{OfBytes}
use Rattle.jobs.proofs.Laws.{all-fail}
use Rattle.jobs.specs.Tasks.{Task, pool_of, back}
use Rattle.moved.proofs.Accepted.{record-renamed, moved-answer}
use Rattle.moved.proofs.Bytes.{frame-whole, same_count}
use Rattle.moved.proofs.Fit.{Fit, extent-goes}
use Rattle.moved.proofs.Records.{fit}
use Rattle.moved.proofs.Taken.{block-off-work, placed}
use Rattle.moved.specs.Placed.{Placed}
use Rattle.moving.proofs.Operand.{in-or-not, rename-other, rename-in, rename-start, rename-extent}
use Rattle.moving.specs.Rename.{rename_operand, rename_rec}
use Rattle.refusals.proofs.Has.{has-none}
use Rattle.refusals.specs.Records.{OperandAt, first, second, third}
use Rattle.orders.proofs.Went.{Went, found, is-place, some_word, accepted, file_by, goes-if}
use Rattle.orders.proofs.Words.{exchange_of}

-- ---- a search that finds nothing

none-some : (test : ℕ → Bool) (n k : ℕ) → ((j : ℕ) → k ≤ j → j < k + n → test j ≡ false) → some_from test k n ≡ false
none-some test n k h =
    is_false (some_from test k n) (λ e. let r = some_at test k n e in differ (sym r.3 ∙ h r.0 r.1 r.2))

-- what is inside words that are clear of others is clear of them
clear_in : (a e q n c m : ℕ) → q ≤ a → a + e ≤ q + n → Clear q n c m → Clear a e c m
clear_in a e q n c m l u (inl h) = inl (omega arith)
clear_in a e q n c m l u (inr h) = inr (omega arith)

off-false : (x : Bool) → (x && not true) ≡ false
off-false true = refl
off-false false = refl

-- ---- the file after

module _ (v : Device) (few : v.words ≤ 2 ^ 32) (f : List ℕ) (byte : OfBytes f) (s : Task) (w : Went v f s) where
  abbrev b : Block
  b = s.block

  abbrev q : ℕ
  q = s.place

  abbrev σ : ℕ → ℕ
  σ = exchange_of s

  abbrev g : List ℕ
  g = file_by s f

  pl : Placed v (records_of f) b q
  pl = placed (found w)

  count_same : count_of g ≡ count_of f
  count_same = same_count b q f (frame-whole f (found w).frame)

  -- the check answers as before
  pub check-after : check_for v g ≡ check_for v f
  check-after = moved-answer v f b q byte few (found w).frame pl

  -- a test that no renamed operand of f passes: no operand of g does
  module _ (test : Place → Operand → Bool) (new : (k : ℕ) → k < count_of f → (p : Place) (o : Operand) → OperandAt ((records_of f).at k) p o → test p (rename_operand σ o) ≡ false) where
    none_in : (k : ℕ) → k < count_of f → record_has test ((records_of g).at k) ≡ false
    unfolding rename_rec some_operand
    none_in k h =
        rw (record-renamed v f b q byte few (found w).frame pl k h)
        (ap₂ ◌||◌ (ap₂ ◌||◌ (new k h _ _ first) (new k h _ _ second)) (new k h _ _ third))

    none_from : (j : ℕ) → 0 ≤ j → j < 0 + count_of g → record_has test ((records_of g).at j) ≡ false
    none_from j a c = none_in j (omega (arith, count_same, c))

    pub no_record : some_record test (records_of g) ≡ false
    unfolding some_record
    no_record = none-some (λ k. record_has test ((records_of g).at k)) (count_of g) 0 none_from

    pub no-first-record : first_at (λ k. record_has test ((records_of g).at k)) 0 (count_of g) ≡ Nowhere
    no-first-record = all-fail (λ k. record_has test ((records_of g).at k)) (count_of g) 0 none_from

  -- ---- an operand's new extent

  module _ {p : Place} {o : Operand} (x : Fit v b q p o) where
    -- whatever holds of words in the place, and of the old extent where it is clear of block and place, holds of the new one
    new-extent : (test : ℕ → ℕ → Bool) → ((a : ℕ) → q ≤ a → a + extent_of p o ≤ q + b.length → test a (extent_of p o) ≡ false)
        → (in_d o ≡ true → Clear (start_of o) (extent_of p o) b.start b.length → Clear (start_of o) (extent_of p o) q b.length → test (start_of o) (extent_of p o) ≡ false)
        → (in_d (rename_operand σ o) && test (start_of (rename_operand σ o)) (extent_of p (rename_operand σ o))) ≡ false
    new-extent test h e =
        in-or-not o
        (λ k.
        rw (rename-in σ o, k, rename-start σ o k, rename-extent σ o p)
        (extent-goes pl.two x k (λ a. test a (extent_of p o) ≡ false) h (e k)))
        (λ k. rw (rename-in σ o, k))

  -- ---- another task

  module _ (t : Task) (was : Went v f t) (clear-block : Clear q b.length t.block.start t.block.length) (clear-place : Clear q b.length t.place t.block.length) where
    abbrev c : Block
    c = t.block

    abbrev place : Block
    place = block t.place c.length

    -- the operand's extent met none of the words, and does not after the move
    off-new : (d : Block) → Clear q b.length d.start d.length → {p : Place} {o : Operand} → Fit v b q p o → touches d p o ≡ false
        → touches d p (rename_operand σ o) ≡ false
    unfolding touches
    off-new d z {p} {o} x e =
        new-extent x (λ (a n : ℕ). meets a n d.start d.length)
        (λ a l u. not-meets a (extent_of p o) d.start d.length (clear_in a (extent_of p o) q b.length d.start d.length l u z))
        (λ k _ _. rw k at e)

    -- it was not partly in them, and is not
    whole-new : {p : Place} {o : Operand} → Fit v b q p o → partly c p o ≡ false → partly c p (rename_operand σ o) ≡ false
    unfolding partly touches
    whole-new {p} {o} x e =
        in-or-not o
        (λ k.
        rw (rename-in σ o, k, rename-start σ o k, rename-extent σ o p)
        (extent-goes pl.two x k (λ a. (meets a (extent_of p o) c.start c.length && not (inside a (extent_of p o) c.start c.length)) ≡ false)
        (λ a l u. rw (not-meets a (extent_of p o) c.start c.length (clear_in a (extent_of p o) q b.length c.start c.length l u clear-block)))
        (λ _ _. rw k at e)))
        (λ k. rw (rename-other σ o k) e)

    -- what was so of the records of f
    was-whole : (k : ℕ) → k < count_of f → record_has (partly c) ((records_of f).at k) ≡ false
    unfolding split_fault
    was-whole k h = no-first (λ i. record_has (partly c) ((records_of f).at i)) (count_of f) 0 (none-refused 13 _ (placed (found was)).unsplit) k (omega arith) (omega arith)

    was-unused : (k : ℕ) → k < count_of f → record_has (touches place) ((records_of f).at k) ≡ false
    unfolding some_record
    was-unused k h = none-at (λ i. record_has (touches place) ((records_of f).at i)) 0 (count_of f) (placed (found was)).unused k (omega arith) (omega arith)

    -- is so of those of g
    unsplit : split_fault (records_of g) c ≡ Fine
    unfolding split_fault
    unsplit = rw (no-first-record (partly c) (λ k h p o at. whole-new (fit pl k h at) (has-none (partly c) ((records_of f).at k) (was-whole k h) at)))

    unused : some_record (touches place) (records_of g) ≡ false
    unused = no_record (touches place) (λ k h p o at. off-new place clear-place (fit pl k h at) (has-none (touches place) ((records_of f).at k) (was-unused k h) at))

    fine : judge_move v (records_of g) c (pool_of t) ≡ Fine
    unfolding judge_move
    fine =
        ap (λ (j : Judged). then (block_fault v c) (then (pool_fault v (pool_of t)) (then (block_work v c) j))) (unsplit ∙ sym (placed (found was)).unsplit)
        ∙ (found was).fine

    right : is_place v (records_of g) c (pool_of t) t.place ≡ true
    unfolding is_place
    right =
        ap (λ (x : Bool).
        inside t.place c.length (pool_of t).start ((pool_of t).end - (pool_of t).start) && not (meets t.place c.length c.start c.length) && not (meets_work v t.place c.length) && not x)
        (unused ∙ sym (placed (found was)).unused)
        ∙ is-place was

    pub still-goes : Went v g t
    still-goes = let a = accepted was in goes-if v g t a.0 a.1 (check-after ∙ a.2) (some_word was) fine right

  -- ---- the way back

  abbrev from : Block
  from = block q b.length

  abbrev there : Block
  there = block b.start b.length

  apart : Clear q b.length b.start b.length
  apart = clear q b.length b.start b.length pl.two.apart

  -- an extent of g is whole in the place, or clear of it
  back_whole : {p : Place} {o : Operand} → Fit v b q p o → partly from p (rename_operand σ o) ≡ false
  unfolding partly touches
  back_whole {p} {o} x =
      in-or-not o
      (λ k.
      rw (rename-in σ o, k, rename-start σ o k, rename-extent σ o p)
      (extent-goes pl.two x k (λ a. (meets a (extent_of p o) q b.length && not (inside a (extent_of p o) q b.length)) ≡ false)
      (λ a l u. rw (inside-yes a (extent_of p o) q b.length l u) (off-false (meets a (extent_of p o) q b.length)))
      (λ _ z. rw (not-meets (start_of o) (extent_of p o) q b.length z))))
      (λ k. rw (rename-in σ o, k))

  -- and none meets the block
  back-off : {p : Place} {o : Operand} → Fit v b q p o → touches there p (rename_operand σ o) ≡ false
  unfolding touches
  back-off {p} {o} x =
      new-extent x (λ (a n : ℕ). meets a n b.start b.length)
      (λ a l u. not-meets a (extent_of p o) b.start b.length (clear_in a (extent_of p o) q b.length b.start b.length l u apart))
      (λ _ z _. not-meets (start_of o) (extent_of p o) b.start b.length z)

  back-unsplit : split_fault (records_of g) from ≡ Fine
  unfolding split_fault
  back-unsplit = rw (no-first-record (partly from) (λ k h p o at. back_whole (fit pl k h at)))

  back-unused : some_record (touches there) (records_of g) ≡ false
  back-unused = no_record (touches there) (λ k h p o at. back-off (fit pl k h at))

  block-free : meets_work v b.start b.length ≡ false
  unfolding block_work
  block-free = go (meets_work v b.start b.length) (block-off-work (found w))
    where
      go : (x : Bool) → pick x (Fault 12 0) Fine ≡ Fine → x ≡ false
      go true e = let z : ◌≡◌ {A = ℕ} 0 1 = cc in absurd (omega arith)
      go false e = refl

  back-fine : judge_move v (records_of g) from (pool_of (back s)) ≡ Fine
  unfolding judge_move block_fault pool_fault block_work
  back-fine =
      let low : b.start ≤ b.start + b.length = omega arith in
      rw (lt-ltb _ _ (some_word w), le-leb _ _ pl.two.place_in, le-leb _ _ low, le-leb _ _ pl.two.block_in, pl.off_work) back-unsplit

  back-right : is_place v (records_of g) from (pool_of (back s)) b.start ≡ true
  unfolding is_place
  back-right =
      let n : b.start + b.length ≤ b.start + (b.start + b.length - b.start) = omega arith in
      let other : Clear b.start b.length q b.length = elim apart [ inl h ↦ inr h | inr h ↦ inl h ] in
      rw (inside-yes b.start b.length b.start (b.start + b.length - b.start) (omega arith) n, not-meets b.start b.length q b.length other, block-free, back-unused)

  pub goes_back : Went v g (back s)
  goes_back = let a = accepted w in goes-if v g (back s) a.0 a.1 (check-after ∙ a.2) (some_word w) back-fine back-right
