-- A word in use and an operand that meets words: some record holds one of the words exactly if some operand's extent meets them. Assumes nothing.
use Prim.Native.Nat.{ℕ, ◌+◌, ◌≤◌, ◌<◌}
use mathlib.Core.Bool.{Bool, true, ◌&&◌, ◌||◌}
use mathlib.Core.Path.{◌≡◌, ap₂}
use native.Mathlib.Omega.{arith}
use Rattle.ec20.proofs.Ranges.{within-yes, is_within, meets-yes, common}
use Rattle.ec20.proofs.Some.{some_at, at_some}
use Rattle.ec20.proofs.Tests.{both, or_right, three, one-first, one-second}
use Rattle.ec20.specs.Devices.{within, meets}
use Rattle.ec20.specs.File.{Records}
use Rattle.ec20.specs.Move.{block, touches}
use Rattle.ec20.specs.Operands.{in_d, start_of, extent_of}
use Rattle.ec20.specs.Table.{row_of}
use Rattle.ec20.specs.UseMap.{holds, some_operand, record_has, some_record}
use Rattle.ec20.specs.declared.Operand.{Operand}
use Rattle.ec20.specs.declared.Place.{Place}
use Rattle.ec20.specs.declared.Rec.{Rec}
use Rattle.ec20.specs.declared.Row.{Row}
use Rattle.places.proofs.Extents.{Real}

-- ---- an operand, the operands of a record, and records

module _ (q n : ℕ) where
  hold-touch : (i : ℕ) → q ≤ i → i < q + n → (p : Place) (o : Operand) → holds i p o ≡ true → touches (block q n) p o ≡ true
  unfolding holds touches
  hold-touch i l u p o e =
      let h = both (in_d o) (within (start_of o) (extent_of p o) i) e in
      let w = is_within (start_of o) (extent_of p o) i h.1 in
      let x : start_of o ≤ i = w.0 in
      let y : i < start_of o + extent_of p o = w.1 in
      ap₂ ◌&&◌ h.0 (meets-yes (start_of o) (extent_of p o) q n (omega arith) (omega arith))

  held : (i : ℕ) → q ≤ i → i < q + n → (w : Row) (r : Rec) → some_operand (holds i) w r ≡ true → some_operand (touches (block q n)) w r ≡ true
  unfolding some_operand
  held i l u w r e =
      let t : Place → Operand → Bool = touches (block q n) in
      let go = hold-touch i l u in
      three (holds i w.first r.first) (holds i w.second r.second) (holds i w.third r.third) e
      (λ g. one-first (t w.first r.first) (t w.second r.second) (t w.third r.third) (go _ _ g))
      (λ g. one-second (t w.first r.first) (t w.second r.second) (t w.third r.third) (go _ _ g))
      (λ g. or_right (t w.first r.first || t w.second r.second) (t w.third r.third) (go _ _ g))

  -- if one of the words is in use, an operand's extent meets them
  pub used-meets : (rs : Records) (i : ℕ) → q ≤ i → i < q + n → some_record (holds i) rs ≡ true → some_record (touches (block q n)) rs ≡ true
  unfolding some_record
  used-meets rs i l u e =
      let k = some_at (λ j. record_has (holds i) (rs.at j)) 0 rs.count e in
      at_some (λ j. record_has (touches (block q n)) (rs.at j)) 0 rs.count k.0 k.1 k.2 (held i l u _ _ k.3)

  module _ (some : 0 < n) where
    -- a word of these that is held
    abbrev Held : (ℕ → Bool) → Type 0
    Held test = (i : ℕ) × (q ≤ i) × (i < q + n) × (test i ≡ true)

    touch-hold : (p : Place) (o : Operand) → (in_d o ≡ true → 1 ≤ extent_of p o) → touches (block q n) p o ≡ true → Held (λ i. holds i p o)
    unfolding holds touches
    touch-hold p o r e =
        let h = both (in_d o) (meets (start_of o) (extent_of p o) q n) e in
        let c = common (start_of o) (extent_of p o) q n (r h.0) some h.1 in
        (c.0, c.3, c.4, ap₂ ◌&&◌ h.0 (within-yes (start_of o) (extent_of p o) c.0 c.1 c.2))

    touched : (w : Row) (r : Rec) → Real w r → some_operand (touches (block q n)) w r ≡ true → Held (λ i. some_operand (holds i) w r)
    unfolding some_operand
    touched w r s e =
        let t : Place → Operand → Bool = touches (block q n) in
        let h : ℕ → Place → Operand → Bool = holds in
        three (t w.first r.first) (t w.second r.second) (t w.third r.third) e
        (λ g. let c = touch-hold w.first r.first s.first g in (c.0, c.1, c.2, one-first (h c.0 w.first r.first) (h c.0 w.second r.second) (h c.0 w.third r.third) c.3))
        (λ g. let c = touch-hold w.second r.second s.second g in (c.0, c.1, c.2, one-second (h c.0 w.first r.first) (h c.0 w.second r.second) (h c.0 w.third r.third) c.3))
        (λ g. let c = touch-hold w.third r.third s.third g in (c.0, c.1, c.2, or_right (h c.0 w.first r.first || h c.0 w.second r.second) (h c.0 w.third r.third) c.3))

    -- where each operand with words in D has one at its place: if an operand's extent meets the words, one of them is in use
    pub meets-used : (rs : Records) → ((k : ℕ) → k < rs.count → Real (row_of (rs.at k).number) (rs.at k)) → some_record (touches (block q n)) rs ≡ true
        → Held (λ i. some_record (holds i) rs)
    unfolding some_record
    meets-used rs s e =
        let k = some_at (λ j. record_has (touches (block q n)) (rs.at j)) 0 rs.count e in
        let u : k.0 < 0 + rs.count = k.2 in
        let c = touched (row_of (rs.at k.0).number) (rs.at k.0) (s k.0 (omega arith)) k.3 in
        (c.0, c.1, c.2, at_some (λ j. record_has (holds c.0) (rs.at j)) 0 rs.count k.0 k.1 k.2 c.3)
