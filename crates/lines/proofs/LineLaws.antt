-- 10 to 13 as the mover judges them, and by their words. Assumes nothing.
use Prim.Native.Nat.{ℕ, ◌+◌, ◌<◌, ◌≤◌, zero-le}
use mathlib.Core.Bool.{true, false, not, ◌&&◌}
use mathlib.Core.Logic.{inl, inr}
use mathlib.Core.Path.{◌≡◌, refl, sym, ap, ap₂, ◌∙◌}
use native.Mathlib.Decide.{dec_lt, dec_le}
use native.Mathlib.Omega.{arith}
use lib.Dec.{ltb, leb}
use borrow.Author.Tests.{ltb-true, ltb-false, leb-true, leb-false, not-true}
use Rattle.bound.proofs.First.{first-at, no-first}
use Rattle.ec20.proofs.Ranges.{is-meets, common as shared, common-meets, inside-yes, is-inside, one_out}
use Rattle.ec20.proofs.Tests.{both, differ, picked, one-fails, is_false}
use Rattle.ec20.specs.Basics.{first_at, refused_at}
use Rattle.ec20.specs.Devices.{Device, meets, inside, meets_work}
use Rattle.ec20.specs.File.{Records}
use Rattle.ec20.specs.Move.{Block, Pool, block_fault, pool_fault, block_work, touches, partly, split_fault}
use Rattle.ec20.specs.Operands.{in_d, start_of, extent_of}
use Rattle.ec20.specs.UseMap.{record_has}
use Rattle.ec20.specs.Found.{Found}
use Rattle.ec20.specs.Found.{At, Nowhere}
use Rattle.ec20.specs.Judged.{Fine, Fault}
use Rattle.ec20.specs.declared.Operand.{Operand}
use Rattle.ec20.specs.declared.Place.{Place}
use Rattle.ec20.specs.declared.Rec.{Rec}
use Rattle.lines.specs.Lines.{Line10, empty, not_inside, Line11, above, past, In, Line12, meets as common, Extent, Line13, split}
use Rattle.refusals.proofs.Has.{has_one, one_has}
use Rattle.refusals.proofs.Search.{Judges}
use Rattle.refusals.proofs.Tells.{Tells, tells}
use Rattle.refusals.proofs.Work.{shared as shared-work, sharing}
use Rattle.refusals.specs.Records.{OperandAt}

-- ---- 10 and 11

fits-10 : (v : Device) (b : Block) → (ltb 0 b.length && leb (b.start + b.length) v.words) ≡ true → Line10 v b → ⊥
fits-10 v b e (empty z) = let h : 0 < b.length = ltb-true _ _ (both (ltb 0 b.length) (leb (b.start + b.length) v.words) e).0 in omega arith
fits-10 v b e (not_inside z) = let h : b.start + b.length ≤ v.words = leb-true _ _ (both (ltb 0 b.length) (leb (b.start + b.length) v.words) e).1 in omega arith

out-10 : (v : Device) (b : Block) → (ltb 0 b.length && leb (b.start + b.length) v.words) ≡ false → Line10 v b
out-10 v b e =
    elim (one-fails (ltb 0 b.length) (leb (b.start + b.length) v.words) e) [
      | inl g ↦ let h : b.length ≤ 0 = ltb-false _ _ g in empty (omega arith)
      | inr g ↦ not_inside (leb-false _ _ g)
    ]

pub judged-10 : (v : Device) (b : Block) → Tells 10 (Line10 v b) (block_fault v b)
unfolding block_fault
judged-10 v b = tells (ltb 0 b.length && leb (b.start + b.length) v.words) 10 (Line10 v b) (fits-10 v b) (out-10 v b)

fits-11 : (v : Device) (l : Pool) → (leb l.start l.end && leb l.end v.words) ≡ true → Line11 v l → ⊥
fits-11 v l e (above z) = let h : l.start ≤ l.end = leb-true _ _ (both (leb l.start l.end) (leb l.end v.words) e).0 in omega arith
fits-11 v l e (past z) = let h : l.end ≤ v.words = leb-true _ _ (both (leb l.start l.end) (leb l.end v.words) e).1 in omega arith

out-11 : (v : Device) (l : Pool) → (leb l.start l.end && leb l.end v.words) ≡ false → Line11 v l
out-11 v l e =
    elim (one-fails (leb l.start l.end) (leb l.end v.words) e) [
      | inl g ↦ above (leb-false _ _ g)
      | inr g ↦ past (leb-false _ _ g)
    ]

pub judged-11 : (v : Device) (l : Pool) → Tells 11 (Line11 v l) (pool_fault v l)
unfolding pool_fault
judged-11 v l = tells (leb l.start l.end && leb l.end v.words) 11 (Line11 v l) (fits-11 v l) (out-11 v l)

-- ---- a block that is not refused by 10

pub some_words : (v : Device) (b : Block) → (Line10 v b → ⊥) → 0 < b.length
some_words v b h = elim (dec_lt 0 b.length) [ yes g ↦ g | no g ↦ absurd (h (empty (omega arith))) ]

pub inside-words : (v : Device) (b : Block) → (Line10 v b → ⊥) → b.start + b.length ≤ v.words
inside-words v b h = elim (dec_le (b.start + b.length) v.words) [ yes g ↦ g | no g ↦ absurd (h (not_inside (omega arith))) ]

-- ---- a pool that is not refused by 11

pub pool-order : (v : Device) (l : Pool) → (Line11 v l → ⊥) → l.start ≤ l.end
pool-order v l h = elim (dec_le l.start l.end) [ yes g ↦ g | no g ↦ absurd (h (above (omega arith))) ]

pub pool-words : (v : Device) (l : Pool) → (Line11 v l → ⊥) → l.end ≤ v.words
pool-words v l h = elim (dec_le l.end v.words) [ yes g ↦ g | no g ↦ absurd (h (past (omega arith))) ]

-- ---- 12

off_work : (v : Device) (b : Block) → meets_work v b.start b.length ≡ false → Line12 v b → ⊥
off_work v b e (common i x w) = differ (sym (sharing v b.start b.length i x.from x.to w) ∙ e)

pub judged-12 : (v : Device) (b : Block) → (Line10 v b → ⊥) → Tells 12 (Line12 v b) (block_work v b)
unfolding block_work
judged-12 v b h =
    picked (Tells 12 (Line12 v b)) (meets_work v b.start b.length) (Fault 12 0) Fine
    (λ e.
    let s = shared-work v b.start b.length e (some_words v b h) (inside-words v b h) in
    (refl, refl, common s.0 (record { from = s.1; to = s.2 }) s.3))
    (off_work v b)

-- ---- 13

module _ (b : Block) (p : Place) (o : Operand) where
  abbrev a : ℕ
  a = start_of o

  abbrev n : ℕ
  n = extent_of p o

  -- partly in the block: a word of the extent that is in it, and one that is not
  pub partly-words : 0 < b.length → partly b p o ≡ true
      → (i : ℕ) × (j : ℕ) × Extent p o i × In b i × Extent p o j × (In b j → ⊥)
  unfolding partly touches
  partly-words some e =
      let x = both (in_d o && meets a n b.start b.length) (not (inside a n b.start b.length)) e in
      let y = both (in_d o) (meets a n b.start b.length) x.0 in
      let z = is-meets a n b.start b.length y.1 in
      let lo : a < b.start + b.length = z.0 in
      let hi : b.start < a + n = z.1 in
      elim (dec_lt 0 n) [
        | yes g ↦
            let c = shared a n b.start b.length g some y.1 in
            let d = one_out a n b.start b.length g (not-true _ x.1) in (
              c.0,
              d.0,
              record { in_D = y.0; from = c.1; to = c.2 },
              record { from = c.3; to = c.4 },
              record { in_D = y.0; from = d.1; to = d.2 },
              λ h. d.3 h.from h.to,
            )
        | no g ↦ differ (sym (inside-yes a n b.start b.length (omega arith) (omega arith)) ∙ not-true _ x.1)
      ]

  pub words-partly : (i j : ℕ) → Extent p o i → In b i → Extent p o j → (In b j → ⊥) → partly b p o ≡ true
  unfolding partly touches
  words-partly i j x y z out =
      ap₂ ◌&&◌ (ap₂ ◌&&◌ x.in_D (common-meets a n b.start b.length i x.from x.to y.from y.to))
      (ap not (is_false (inside a n b.start b.length)
      (λ e. let h = is-inside a n b.start b.length e in out (record { from = omega (arith, h.0, z.from); to = omega (arith, h.1, z.to) }))))

module _ (b : Block) (r : Rec) where
  by-words : 0 < b.length → {p : Place} {o : Operand} → OperandAt r p o → partly b p o ≡ true → Line13 b r
  by-words some {p} {o} at e = let w = partly-words b p o some e in split w.0 w.1 at w.2 w.3 w.4 w.5

  to-line : 0 < b.length → record_has (partly b) r ≡ true → Line13 b r
  to-line some e = let s = has_one (partly b) r e in by-words some s.2 s.3

  from-line : Line13 b r → record_has (partly b) r ≡ true
  from-line (split {p} {o} i j at x y z out) = one_has (partly b) r at (words-partly b p o i j x y z out)

pub judged-13 : (rs : Records) (b : Block) → 0 < b.length → Judges 13 rs.count (λ j. Line13 b (rs.at j)) (split_fault rs b)
unfolding split_fault
judged-13 rs b some = go (first_at (λ (j : ℕ). record_has (partly b) (rs.at j)) 0 rs.count) refl
  where
    go : (x : Found) → first_at (λ (j : ℕ). record_has (partly b) (rs.at j)) 0 rs.count ≡ x → Judges 13 rs.count (λ j. Line13 b (rs.at j)) (refused_at 13 x)
    go (At k) e =
        let f = first-at (λ (j : ℕ). record_has (partly b) (rs.at j)) rs.count 0 k e in
        (refl, record { inside = omega (arith, f.high); holds = to-line b (rs.at k) some f.passes; before = λ j l h. differ (sym (from-line b (rs.at j) h) ∙ f.none j zero-le l) })
    go Nowhere e = λ j l h. differ (sym (from-line b (rs.at j) h) ∙ no-first (λ (i : ℕ). record_has (partly b) (rs.at i)) rs.count 0 e j zero-le (omega arith))
