-- The line 14, and the place that is taken.
use Prim.Native.Nat.{ℕ, ◌+◌, ◌-◌, ◌≤◌, ◌<◌}
use mathlib.Core.Bool.{Bool, true, false}
use mathlib.Core.List.{List}
use mathlib.Core.Path.{◌≡◌, refl}
use native.Mathlib.Omega.{arith}
use native.Mathlib.Decide.{dec_lt}
use Rattle.ec20.proofs.NoFault.{place-parts}
use Rattle.ec20.proofs.Ranges.{inside-yes, is-inside}
use Rattle.ec20.proofs.Some.{some_at, none-at}
use Rattle.ec20.proofs.Tests.{is_false}
use Rattle.ec20.specs.Found.{Found}
use Rattle.ec20.specs.Found.{At, Nowhere}
use Rattle.ec20.specs.declared.Operand.{Operand}
use Rattle.ec20.specs.declared.Place.{Place}
use Rattle.ec20.specs.Devices.{Device, meets, meets_work}
use Rattle.ec20.specs.File.{count_of, records_of}
use Rattle.ec20.specs.Move.{Block, block, Pool, touches, is_place, place_of}
use Rattle.ec20.specs.UseMap.{record_has, some_record}
use Rattle.bound.proofs.First.{first-at, no-first}
use Rattle.refusals.specs.Records.{OperandAt}
use Rattle.refusals.specs.Table.{record_at}
use Rattle.refusals.proofs.Has.{has_one, one_has}
use Rattle.demands.specs.Lines.{In, Extent, Accepts, Right, Lowest, Line14, Not11, start_above, end_above}
use Rattle.demands.proofs.Ranges.{not-both, in-common, common-meets, work-common, common-work}
use Rattle.demands.proofs.Split.{has_word, touches-to, to-touches}

-- the start of a pool that 11 does not refuse is not above its end
pub pool-order : (v : Device) (l : Pool) → Not11 v l → l.start ≤ l.end
pool-order v l h = elim (dec_lt l.end l.start) [ yes q ↦ absurd (h (start_above q)) | no q ↦ omega arith ]

-- and it ends in D
pub pool_end : (v : Device) (l : Pool) → Not11 v l → l.end ≤ v.words
pool_end v l h = elim (dec_lt v.words l.end) [ yes q ↦ absurd (h (end_above q)) | no q ↦ omega arith ]

-- what a search for a place says
abbrev pub Finds : Device → List ℕ → Block → Pool → Found → Type 0
Finds v f b l (At q) = Lowest v f b l q
Finds v f b l Nowhere = Line14 v f b l

-- an accepted file, a block that is not empty, a pool whose start is not above its end, which lies in D
module _ (v : Device) (f : List ℕ) (b : Block) (l : Pool) (ok : Accepts v f) (some : 0 < b.length) (order : l.start ≤ l.end)
    (most : l.end ≤ v.words) where
  module _ (q : ℕ) where
    abbrev Meets : Bool
    Meets = meets q b.length b.start b.length

    abbrev Worked : Bool
    Worked = meets_work v q b.length

    abbrev Used : Bool
    Used = some_record (touches (block q b.length)) (records_of f)

    -- ---- what passes is right

    unused-to : Used ≡ false → (k : ℕ) → k < count_of f → (p : Place) (o : Operand) → OperandAt (record_at f k) p o
        → (i : ℕ) → In q b.length i → Extent p o i → ⊥
    unfolding some_record
    unused-to e k h p o at i x y =
        not-both (one_has (touches (block q b.length)) (record_at f k) at (to-touches (block q b.length) p o i y x))
        (none-at (λ j. record_has (touches (block q b.length)) ((records_of f).at j)) 0 (count_of f) e k (omega arith) (omega arith))

    pub place-right : is_place v (records_of f) b l q ≡ true → Right v f b l q
    place-right e =
        let x = place-parts v (records_of f) b l q e in
        let w = is-inside q b.length l.start (l.end - l.start) x.0 in
        record {
          from = w.0;
          to = omega (arith, w.1, order);
          off_block = λ i u z. not-both (common-meets q b.length b.start b.length i (record { from = u.from; to = omega (arith, u.to, some) }) z) x.1;
          off_work = λ i u z. not-both (common-work v q b.length i (record { from = u.from; to = omega (arith, u.to, some) }) z) x.2;
          unused = unused-to x.3;
        }

    -- ---- and what is right passes

    used-not : Right v f b l q → Used ≡ true → ⊥
    unfolding some_record
    used-not r e =
        let s = some_at (λ j. record_has (touches (block q b.length)) ((records_of f).at j)) 0 (count_of f) e in
        let h : s.0 < count_of f = omega (arith, s.2) in
        let t = has_one (touches (block q b.length)) (record_at f s.0) s.3 in
        let u = touches-to (block q b.length) t.0 t.1 (has_word v f ok s.0 h t.0 t.1 t.2) some t.3 in
        r.unused s.0 h t.0 t.1 t.2 u.0 u.2 u.1

    pub right-place : Right v f b l q → is_place v (records_of f) b l q ≡ true
    unfolding is_place
    right-place r =
        let w : q + b.length ≤ l.start + (l.end - l.start) = omega (arith, r.to, order) in
        let x : Meets ≡ false = is_false Meets (λ e. let s = in-common q b.length b.start b.length some some e in r.off_block s.0 s.1 s.2) in
        let y : Worked ≡ false = is_false Worked (λ e. let s = work-common v q b.length some (omega (arith, r.to, most)) e in r.off_work s.0 s.1 s.2) in
        rw (inside-yes q b.length l.start (l.end - l.start) r.from w, x, y, is_false Used (used-not r))

  -- ---- what the search finds

  by-found : (x : Found) → place_of v (records_of f) b l ≡ x → Finds v f b l x
  unfolding place_of
  by-found (At q) e =
      let r = first-at (is_place v (records_of f) b l) (l.end - l.start) l.start q e in
      record {
        right = place-right q r.passes;
        none_lower = λ j h z. not-both (right-place j z) (r.none j z.from h);
      }
  by-found Nowhere e =
      λ q z. not-both (right-place q z) (no-first (is_place v (records_of f) b l) (l.end - l.start) l.start e q z.from (omega (arith, z.to, some, order)))

  pub found-place : Finds v f b l (place_of v (records_of f) b l)
  found-place = by-found (place_of v (records_of f) b l) refl

-- there is one lowest
pub one-lowest : (v : Device) (f : List ℕ) (b : Block) (l : Pool) (q j : ℕ) → Lowest v f b l q → Lowest v f b l j → q ≡ j
one-lowest v f b l q j x y =
    elim (dec_lt q j) [
      | yes h ↦ absurd (y.none_lower q h x.right)
      | no h ↦ elim (dec_lt j q) [ yes g ↦ absurd (x.none_lower j g y.right) | no g ↦ omega arith ]
    ]
