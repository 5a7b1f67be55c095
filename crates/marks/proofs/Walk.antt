-- A walk over records that marks words: each operand widens the map, and each record passed. Assumes nothing.
use Prim.Native.Nat.{ℕ, zero, suc, ◌+◌, ◌<◌, ◌≤◌}
use mathlib.Core.Bool.{Bool, false, ◌||◌, or_assoc, or-false}
use mathlib.Core.List.{List}
use mathlib.Core.Path.{◌≡◌, refl, sym, ap, fun_ext, ◌∙◌}
use native.Mathlib.Numerals.{add-one}
use native.Mathlib.Omega.{arith}
use Rattle.ec20.specs.Answers.{blank_map}
use Rattle.ec20.specs.Basics.{some_from}
use Rattle.ec20.specs.Devices.{Device}
use Rattle.ec20.specs.File.{Records}
use Rattle.ec20.specs.Table.{row_of}
use Rattle.ec20.specs.UseMap.{map_of, holds, some_operand, record_has, some_record}
use Rattle.ec20.specs.declared.Operand.{Operand}
use Rattle.ec20.specs.declared.Place.{Place}
use Rattle.ec20.specs.declared.Rec.{Rec}
use Rattle.ec20.specs.declared.Row.{Row}
use Rattle.marks.specs.Marked.{marking_held, Widened, Passed}
use Rattle.marks.proofs.Maps.{map-none, map-held}

-- ---- operands

module _ (v : Device) (m : List ℕ) where
  -- an operand's words are marked
  pub widen-held : (p : Place) (o : Operand) {n : List ℕ} → n ≡ marking_held m p o → Widened v (λ i. holds i p o) m n
  widen-held p o e = record { by = λ t f. e ∙ ap (λ (l : List ℕ). marking_held l p o) f ∙ map-held v t p o }

  -- nothing is marked
  pub widen_none : Widened v (λ i. false) m m
  widen_none = record { by = λ t f. f ∙ ap (map_of v) (fun_ext (λ i. sym (or-false (t i)))) }

  -- one after the other
  pub widen-both : {s t : ℕ → Bool} {n o : List ℕ} → Widened v s m n → Widened v t n o → Widened v (λ i. s i || t i) m o
  widen-both {s} {t} a b = record { by = λ p f. b.by (λ i. p i || s i) (a.by p f) ∙ ap (map_of v) (fun_ext (λ i. or_assoc (p i) (s i) (t i))) }

-- the three operands of a record
pub widen-three : (v : Device) (test : ℕ → Place → Operand → Bool) (w : Row) (r : Rec) {a b c d : List ℕ}
    → Widened v (λ i. test i w.first r.first) a b → Widened v (λ i. test i w.second r.second) b c
    → Widened v (λ i. test i w.third r.third) c d → Widened v (λ i. some_operand (test i) w r) a d
unfolding some_operand
widen-three v test w r {a} {b} {c} {d} f g h = widen-both v a (widen-both v a f g) h

-- ---- records

-- one more number is tried
some_more : (p : ℕ → Bool) (k n : ℕ) → some_from p k (suc n) ≡ (some_from p k n || p (k + n))
unfolding some_from
some_more p k zero = let e : k ≡ k + 0 = omega arith in or-false (p k) ∙ ap p e
some_more p k (suc n) =
    let e : suc k + n ≡ k + suc n = omega arith in
    ap (λ (b : Bool). p k || b) (some_more p (suc k) n ∙ ap (λ (j : ℕ). some_from p (suc k) n || p j) e)
    ∙ sym (or_assoc (p k) (some_from p (suc k) n) (p (k + suc n)))

module _ (v : Device) (test : ℕ → Place → Operand → Bool) (rs : Records) where
  pub passed_none : Passed v test rs 0 (blank_map v)
  unfolding some_from
  passed_none = record { below = omega arith; is = map-none v }

  -- record k is passed, whose row was looked up
  pub passed-more : (k : ℕ) {r : Rec} {w : Row} {m n : List ℕ} → k < rs.count → r ≡ rs.at k → w ≡ row_of r.number → Passed v test rs k m
      → Widened v (λ i. some_operand (test i) w r) m n → Passed v test rs (k + 1) n
  passed-more k {r} {w} {n = n} h e f s g =
      let q : ℕ → ℕ → Bool = λ i j. record_has (test i) (rs.at j) in
      let t : n ≡ map_of v (λ i. some_from (q i) 0 k || some_operand (test i) w r) = g.by _ s.is in
      let own : (i : ℕ) → some_operand (test i) w r ≡ q i k = λ i. rw (f, e) refl in
      let zk : 0 + k ≡ k = omega arith in
      let more : (i : ℕ) → (some_from (q i) 0 k || some_operand (test i) w r) ≡ some_from (q i) 0 (k + 1) =
      λ i. ap (λ (b : Bool). some_from (q i) 0 k || b) (own i ∙ ap (q i) (sym zk)) ∙ sym (some_more (q i) 0 k) ∙ ap (some_from (q i) 0) (sym (add-one k)) in
      record { below = omega arith; is = t ∙ ap (map_of v) (fun_ext more) }

  -- all are passed
  pub passed-all : (k : ℕ) {m : List ℕ} → rs.count ≤ k → Passed v test rs k m → m ≡ map_of v (λ i. some_record (test i) rs)
  unfolding some_record
  passed-all k h s = let b : k ≤ rs.count = s.below in let e : k ≡ rs.count = omega arith in s.is ∙ ap (λ (n : ℕ). map_of v (λ i. some_from (λ j. record_has (test i) (rs.at j)) 0 n)) e
