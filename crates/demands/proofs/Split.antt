-- The line 13: an operand's extent partly in the block, as the definition tests it and by its words.
use Prim.Native.Nat.{ℕ, ◌+◌, ◌≤◌, ◌<◌}
use mathlib.Core.Bool.{Bool, true, not, ◌&&◌}
use mathlib.Core.List.{List}
use mathlib.Core.Path.{◌≡◌, refl, ap₂}
use native.Mathlib.Omega.{arith}
use borrow.Author.Tests.{not-true}
use Rattle.ec20.proofs.Laws.{no-fault}
use Rattle.ec20.proofs.NoFault.{accepted-records, record-fine}
use Rattle.ec20.proofs.Ranges.{is-inside}
use Rattle.ec20.proofs.Tests.{both, is_false}
use Rattle.ec20.specs.Found.{Found}
use Rattle.ec20.specs.Found.{At, Nowhere}
use Rattle.ec20.specs.declared.Operand.{Operand}
use Rattle.ec20.specs.declared.Place.{Place}
use Rattle.ec20.specs.Basics.{first_at, refused_at}
use Rattle.ec20.specs.Devices.{Device, inside}
use Rattle.ec20.specs.File.{count_of, records_of}
use Rattle.ec20.specs.Move.{Block, touches, partly, split_fault}
use Rattle.ec20.specs.Operands.{in_d, start_of, extent_of, allowed, fault_in}
use Rattle.ec20.specs.UseMap.{record_has}
use Rattle.bound.proofs.First.{first-at, no-first}
use Rattle.refusals.specs.Records.{OperandAt}
use Rattle.refusals.specs.Table.{record_at}
use Rattle.refusals.proofs.Has.{has_one, one_has, some_word}
use Rattle.refusals.proofs.Operands.{all-allowed}
use Rattle.refusals.proofs.Search.{Judges}
use Rattle.demands.specs.Lines.{InBlock, Extent, Accepts, Partly, Line13, partly as is-partly}
use Rattle.demands.proofs.Ranges.{not-both, in-common, common-meets, one_out}

-- ---- in an accepted file, an operand in D has a word at least

module _ (v : Device) (f : List ℕ) (ok : Accepts v f) (k : ℕ) (h : k < count_of f) (p : Place) (o : Operand) (at : OperandAt (record_at f k) p o) (d : in_d o ≡ true) where
  is-allowed : allowed v p o ≡ true
  is-allowed =
      let r = record_at f k in
      let e = no-fault (λ i. fault_in v (record_at f i)) 0 (count_of f) (accepted-records v f ok.0 ok.1 ok.2) k (omega arith) (omega arith) in
      all-allowed v r (record-fine v r e).1 at

  pub has_word : 0 < extent_of p o
  has_word = let w = some_word v (record_at f k) at d is-allowed in omega (arith, w)

-- ---- an operand's extent and words from a on

pub touches-to : (b : Block) (p : Place) (o : Operand) → (in_d o ≡ true → 0 < extent_of p o) → 0 < b.length → touches b p o ≡ true
    → (i : ℕ) × Extent p o i × InBlock b i
unfolding touches
touches-to b p o some h e =
    let q = both (in_d o) _ e in
    let s = in-common (start_of o) (extent_of p o) b.start b.length (some q.0) h q.1 in
    (s.0, record { in_D = q.0; words = s.1 }, s.2)

pub to-touches : (b : Block) (p : Place) (o : Operand) (i : ℕ) → Extent p o i → InBlock b i → touches b p o ≡ true
unfolding touches
to-touches b p o i x y = ap₂ ◌&&◌ x.in_D (common-meets (start_of o) (extent_of p o) b.start b.length i x.words y)

module _ (b : Block) (p : Place) (o : Operand) where
  abbrev Within : Bool
  Within = inside (start_of o) (extent_of p o) b.start b.length

  partly-to : (in_d o ≡ true → 0 < extent_of p o) → 0 < b.length → partly b p o ≡ true → Partly b p o
  unfolding partly
  partly-to some h e =
      let q = both (touches b p o) (not Within) e in
      let s = touches-to b p o some h q.0 in
      let d : in_d o ≡ true = s.1.in_D in
      let t = one_out (start_of o) (extent_of p o) b.start b.length (some d) (not-true _ q.1) in
      record { one = s.0; one_of = s.1; one_in = s.2; other = t.0; other_of = record { in_D = d; words = t.1 }; other_out = t.2 }

  out-not : Partly b p o → Within ≡ true → ⊥
  out-not x e =
      let q = is-inside (start_of o) (extent_of p o) b.start b.length e in
      let h : start_of o ≤ x.other = x.other_of.words.from in
      let k : x.other < start_of o + extent_of p o = x.other_of.words.to in
      x.other_out (record { from = omega (arith, q.0); to = omega (arith, q.1) })

  to-partly : Partly b p o → partly b p o ≡ true
  unfolding partly
  to-partly x = rw (to-touches b p o x.one x.one_of x.one_in, is_false Within (out-not x))

-- ---- the line

module _ (v : Device) (f : List ℕ) (b : Block) (ok : Accepts v f) (h : 0 < b.length) where
  abbrev test : ℕ → Bool
  test k = record_has (partly b) ((records_of f).at k)

  holds : (k : ℕ) → k < count_of f → test k ≡ true → Line13 f b k
  holds k l e =
      let s = has_one (partly b) (record_at f k) e in
      is-partly s.2 (partly-to b s.0 s.1 (has_word v f ok k l s.0 s.1 s.2) h s.3)

  held : (k : ℕ) → Line13 f b k → test k ≡ true
  held k (is-partly {p} {o} at x) = one_has (partly b) (record_at f k) at (to-partly b p o x)

  by-found : (x : Found) → first_at test 0 (count_of f) ≡ x → Judges 13 (count_of f) (Line13 f b) (refused_at 13 x)
  by-found (At k) e =
      let r = first-at test (count_of f) 0 k e in
      let l : k < count_of f = omega (arith, r.high) in
      (refl, record { inside = l; holds = holds k l r.passes; before = λ j m z. not-both (held j z) (r.none j (omega arith) m) })
  by-found Nowhere e = λ j l z. not-both (held j z) (no-first test (count_of f) 0 e j (omega arith) (omega arith))

  pub judged-13 : Judges 13 (count_of f) (Line13 f b) (split_fault (records_of f) b)
  unfolding split_fault
  judged-13 = by-found (first_at test 0 (count_of f)) refl
