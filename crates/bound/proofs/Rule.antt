-- What the walk and the search for label faults leave of a program: a row up to END, in which each CJ finds its label.
use Prim.Native.Nat.{ℕ, suc, ◌+◌, ◌<◌}
use mathlib.Core.Bool.{false}
use mathlib.Core.Path.{◌≡◌, refl, sym, ap, ◌∙◌}
use native.Mathlib.Omega.{arith}
use Rattle.ec20.specs.declared.Control.{Control}
use Rattle.ec20.specs.declared.Control.TheVariants.{Jumps, Marks, Ends}
use Rattle.ec20.specs.Found.{At, Nowhere}
use Rattle.ec20.specs.Walked.{Done}
use Rattle.ec20.specs.Basics.{first_at}
use Rattle.ec20.specs.Control.{Controls, marks, found_in_body, first_label}
use Rattle.ec20.specs.Walkers.{walk_of}
use Rattle.ec20.specs.Labels.{label_fault, Stands}
use Rattle.bound.proofs.Rows.{Seq, Complete, top, walked}
use Rattle.bound.proofs.First.{no-first, same_true}
use Rattle.bound.proofs.LabelRule.{some-records, label-rule}

-- each CJ's label stands where it must, and is the one found from the next record on
abbrev pub Rule : Controls → ℕ → Type 0
Rule code count =
    (k l : ℕ) → k < count → code k ≡ Jumps l → (t : ℕ) × Stands code count k l t × (found_in_body code count (marks l) 0 (k + 1) ≡ At t)

-- a program that ends at record e and costs u before it
pub record Whole (code : Controls) (count e u : ℕ) : Type 0 where
  pub body : Seq code 0 0 e u
  pub last : code e ≡ Ends
  pub size : e + 1 ≡ count
  pub rule : Rule code count

module _ (code : Controls) (count : ℕ) where
  -- no record breaks the label rule
  abbrev pub Faultless : Type 0
  Faultless = first_at (λ k. label_fault code count k (code k)) 0 count ≡ Nowhere

  faultless : Faultless → (k : ℕ) (i : Control) → k < count → code k ≡ i → label_fault code count k i ≡ false
  faultless e k i h q =
      ap (label_fault code count k) (sym q) ∙ no-first (λ j. label_fault code count j (code j)) count 0 e k (omega arith) (omega arith)

  pub rule-of : (m w : ℕ) → walk_of code count ≡ Done m w → Faultless → Rule code count
  unfolding label_fault
  rule-of m w x e k l h q =
      let f = faultless e k (Jumps l) h q in
      let p = same_true _ _ f in
      let s = (label-rule code count m w x k l h q).0 f in
      let y : p.0 ≡ s.0 = cc (p.1, s.1.first) in
      (s.0, s.1, rw (← y) p.2)

  pub once-of : Faultless → (k l : ℕ) → k < count → code k ≡ Marks l → first_label code count l ≡ At k
  unfolding label_fault
  once-of e k l h q = let p = same_true _ (At k) (faultless e k (Marks l) h q) in p.1 ∙ sym p.2

  closed : {m w : ℕ} → Rule code count → Complete code count 0 0 m w → (m ≡ count) × (e u : ℕ) × Whole code count e u × (w ≡ suc u)
  closed r (top {e = e} {u = u} s l z) = (z, e, u, record { body = s; last = l; size = z; rule = r }, refl)

  pub whole : (m w : ℕ) → walk_of code count ≡ Done m w → Rule code count → (m ≡ count) × (e u : ℕ) × Whole code count e u × (w ≡ suc u)
  whole m w x r = closed r (walked code count count 0 0 m w (some-records code count m w x) x)
