-- The place that the definition finds is right, no lower one is, and it finds nowhere exactly if none is right. Assumes nothing.
use Prim.Native.Nat.{ℕ, ◌+◌, ◌-◌, ◌≤◌, ◌<◌}
use mathlib.Core.Bool.{true, not, ◌&&◌}
use mathlib.Core.Path.{◌≡◌, refl, sym, ap₂, ◌∙◌}
use native.Mathlib.Decide.{dec_lt}
use native.Mathlib.Omega.{arith}
use lib.Dec.{ltb}
use borrow.Author.Tests.{ltb-true, lt-ltb, not-true}
use Rattle.bound.proofs.First.{first-at, no-first}
use Rattle.ec20.proofs.Ranges.{within-yes, is_within}
use Rattle.ec20.proofs.Some.{some_at, at_some}
use Rattle.ec20.proofs.Tests.{both, differ, is_false}
use Rattle.ec20.specs.Devices.{Device, within}
use Rattle.ec20.specs.File.{Records}
use Rattle.ec20.specs.Move.{Block, Pool, is_place, place_of}
use Rattle.ec20.specs.Operands.{first_bad}
use Rattle.ec20.specs.UseMap.{holds, record_has, some_record}
use Rattle.ec20.specs.Found.{Found}
use Rattle.ec20.specs.Found.{At, Nowhere}
use Rattle.ec20.specs.Judged.{Fine}
use Rattle.places.specs.Right.{Right}
use Rattle.places.specs.Runs.{spare}
use Rattle.places.proofs.Clear.{never, right-clear, clear-right}

-- a program that is not refused by 2, 3 or 4, a block that is not empty, and a pool in D
module _ (v : Device) (rs : Records) (b : Block) (l : Pool) (some : 0 < b.length) (order : l.start ≤ l.end) (in_D : l.end ≤ v.words) (fine : first_bad v rs ≡ Fine) where
  -- a place is right by the definition exactly if it is, word by word
  pub is_right : (q : ℕ) → is_place v rs b l q ≡ true → Right v rs b l q
  unfolding spare some_record
  is_right q e =
      let h = right-clear v rs b l some order in_D q e in
      let parts : (i : ℕ) → q ≤ i → i < q + b.length → (ltb i v.work ≡ true) × (not (within b.start b.length i) ≡ true) × (not (some_record (holds i) rs) ≡ true) =
      λ i a z.
      let x = both (ltb i v.work && not (within b.start b.length i)) (not (some_record (holds i) rs)) (h.1 i a z) in
      let y = both (ltb i v.work) (not (within b.start b.length i)) x.0 in
      (y.0, y.1, x.1) in
      record {
        from = h.0.0;
        to = h.0.1;
        off_work = λ i a z. ltb-true _ _ (parts i a z).0;
        off_block = λ i a z s. elim (dec_lt i (b.start + b.length)) [ yes g ↦ differ (sym (within-yes b.start b.length i s g) ∙ not-true _ (parts i a z).1) | no g ↦ omega arith ];
        unused = λ i a z k u. is_false (record_has (holds i) (rs.at k)) (λ g. differ (sym (at_some (λ j. record_has (holds i) (rs.at j)) 0 rs.count k (omega arith) (omega arith) g) ∙ not-true _ (parts i a z).2));
      }

  pub right_is : (q : ℕ) → Right v rs b l q → is_place v rs b l q ≡ true
  unfolding spare some_record
  right_is q r =
      clear-right v rs b l some order in_D fine q (r.from, r.to)
      (λ i a z.
      ap₂ ◌&&◌
      (ap₂ ◌&&◌ (lt-ltb _ _ (r.off_work i a z))
      (never (within b.start b.length i) (λ g. let w = is_within b.start b.length i g in let x : i < b.start + b.length = w.1 in let y : b.start + b.length ≤ i = r.off_block i a z w.0 in omega arith)))
      (never (some_record (holds i) rs) (λ g.
      let k = some_at (λ j. record_has (holds i) (rs.at j)) 0 rs.count g in
      let u : k.0 < 0 + rs.count = k.2 in
      differ (sym k.3 ∙ r.unused i a z k.0 (omega arith)))))

  -- "the lowest such is taken"
  pub the-place : (q : ℕ) → place_of v rs b l ≡ At q → Right v rs b l q × ((p : ℕ) → Right v rs b l p → q ≤ p)
  unfolding place_of
  the-place q e =
      let f = first-at (is_place v rs b l) (l.end - l.start) l.start q e in
      (is_right q f.passes, λ p r. elim (dec_lt p q) [ yes g ↦ differ (sym (right_is p r) ∙ f.none p r.from g) | no g ↦ omega arith ])

  -- "no place": none is right
  pub no_place : place_of v rs b l ≡ Nowhere → (p : ℕ) → Right v rs b l p → ⊥
  unfolding place_of
  no_place e p r =
      let u : p + b.length ≤ l.end = r.to in
      differ (sym (right_is p r) ∙ no-first (is_place v rs b l) (l.end - l.start) l.start e p r.from (omega arith))

  -- and if none is right, no place is found
  pub none_right : ((p : ℕ) → Right v rs b l p → ⊥) → place_of v rs b l ≡ Nowhere
  none_right f = go (place_of v rs b l) refl
    where
      go : (x : Found) → place_of v rs b l ≡ x → x ≡ Nowhere
      go (At q) e = absurd (f q (the-place q e).0)
      go Nowhere e = refl
