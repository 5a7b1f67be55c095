-- A place is right exactly if it lies in the pool and each of its words is free. Assumes nothing.
use Prim.Native.Nat.{ℕ, ◌+◌, ◌-◌, ◌≤◌, ◌<◌}
use mathlib.Core.Bool.{Bool, true, false, not, ◌&&◌}
use mathlib.Core.Path.{◌≡◌, sym, ap, ap₂, ◌∙◌}
use native.Mathlib.Decide.{dec_lt}
use native.Mathlib.Omega.{arith}
use lib.Dec.{ltb}
use borrow.Author.Tests.{ltb-true, lt-ltb, not-true}
use Rattle.ec20.proofs.NoFault.{place-parts}
use Rattle.ec20.proofs.Ranges.{within-yes, is_within, meets-yes, is-meets, common, inside-yes, is-inside}
use Rattle.ec20.proofs.Tests.{both, differ, is_false}
use Rattle.ec20.specs.Devices.{Device, within, meets, inside, meets_work}
use Rattle.ec20.specs.File.{Records}
use Rattle.ec20.specs.Move.{Block, Pool, block, touches, is_place}
use Rattle.ec20.specs.Operands.{first_bad}
use Rattle.ec20.specs.UseMap.{holds, some_record}
use Rattle.ec20.specs.Judged.{Fine}
use Rattle.places.specs.Runs.{spare, Clear}
use Rattle.places.proofs.Extents.{records-real}
use Rattle.places.proofs.Used.{used-meets, meets-used}

-- a test that cannot pass
pub never : (b : Bool) → (b ≡ true → ⊥) → not b ≡ true
never b f = ap not (is_false b f)

module _ (v : Device) (rs : Records) (b : Block) (l : Pool) (some : 0 < b.length) (order : l.start ≤ l.end) (in_D : l.end ≤ v.words) where
  abbrev n : ℕ
  n = b.length

  -- the place lies whole in the pool
  abbrev In : ℕ → Type 0
  In q = (l.start ≤ q) × (q + n ≤ l.end)

  is-in : (q : ℕ) → inside q n l.start (l.end - l.start) ≡ true → In q
  is-in q e =
      let h = is-inside q n l.start (l.end - l.start) e in
      let u : q + n ≤ l.start + (l.end - l.start) = h.1 in
      (h.0, omega arith)

  in-yes : (q : ℕ) → In q → inside q n l.start (l.end - l.start) ≡ true
  in-yes q h =
      let u : q + n ≤ l.end = h.1 in
      inside-yes q n l.start (l.end - l.start) h.0 (omega arith)

  -- ---- a right place has free words

  off_work : (q : ℕ) → In q → meets_work v q n ≡ false → (i : ℕ) → q ≤ i → i < q + n → ltb i v.work ≡ true
  unfolding meets_work
  off_work q h e i a z =
      let u : q + n ≤ l.end = h.1 in
      elim (dec_lt i v.work) [
        | yes g ↦ lt-ltb _ _ g
        | no g ↦ differ (sym (meets-yes q n v.work (v.words - v.work) (omega arith) (omega arith)) ∙ e)
      ]

  off_block : (q : ℕ) → meets q n b.start n ≡ false → (i : ℕ) → q ≤ i → i < q + n → not (within b.start n i) ≡ true
  off_block q e i a z =
      never (within b.start n i)
      (λ g. let w = is_within b.start n i g in let x : b.start ≤ i = w.0 in let y : i < b.start + n = w.1 in
      differ (sym (meets-yes q n b.start n (omega arith) (omega arith)) ∙ e))

  not-used : (q : ℕ) → some_record (touches (block q n)) rs ≡ false → (i : ℕ) → q ≤ i → i < q + n → not (some_record (holds i) rs) ≡ true
  not-used q e i a z = never (some_record (holds i) rs) (λ g. differ (sym (used-meets q n rs i a z g) ∙ e))

  pub right-clear : (q : ℕ) → is_place v rs b l q ≡ true → In q × Clear (spare v rs b) q n
  unfolding spare
  right-clear q e =
      let h = place-parts v rs b l q e in
      let i = is-in q h.0 in
      (i, λ j a z. ap₂ ◌&&◌ (ap₂ ◌&&◌ (off_work q i h.2 j a z) (off_block q h.1 j a z)) (not-used q h.3 j a z))

  -- ---- and a place in the pool whose words are free is right

  module _ (fine : first_bad v rs ≡ Fine) (q : ℕ) (h : In q) (c : Clear (spare v rs b) q n) where
    parts : (i : ℕ) → q ≤ i → i < q + n → (ltb i v.work ≡ true) × (not (within b.start n i) ≡ true) × (not (some_record (holds i) rs) ≡ true)
    unfolding spare
    parts i a z =
        let x = both (ltb i v.work && not (within b.start n i)) (not (some_record (holds i) rs)) (c i a z) in
        let y = both (ltb i v.work) (not (within b.start n i)) x.0 in
        (y.0, y.1, x.1)

    no_block : meets q n b.start n ≡ true → ⊥
    no_block e =
        let i = common q n b.start n some some e in
        differ (sym (within-yes b.start n i.0 i.3 i.4) ∙ not-true _ (parts i.0 i.1 i.2).1)

    no-work : meets_work v q n ≡ true → ⊥
    unfolding meets_work
    no-work e =
        let m = is-meets q n v.work (v.words - v.work) e in
        let x : v.work < q + n = m.1 in
        let u : q + n ≤ l.end = h.1 in
        let i = common q n v.work (v.words - v.work) some (omega arith) e in
        let y : v.work ≤ i.0 = i.3 in
        let z : i.0 < v.work = ltb-true _ _ (parts i.0 i.1 i.2).0 in
        omega arith

    no_operand : some_record (touches (block q n)) rs ≡ true → ⊥
    no_operand e =
        let i = meets-used q n some rs (records-real v rs fine) e in
        differ (sym i.3 ∙ not-true _ (parts i.0 i.1 i.2).2)

    pub clear-right : is_place v rs b l q ≡ true
    unfolding is_place
    clear-right =
        ap₂ ◌&&◌ (ap₂ ◌&&◌ (ap₂ ◌&&◌ (in-yes q h) (never (meets q n b.start n) no_block)) (never (meets_work v q n) no-work)) (never (some_record (touches (block q n)) rs) no_operand)
