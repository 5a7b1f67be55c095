-- A search that tells the first record of which a line holds: what it says, and that it says no other.
use Prim.Native.Nat.{ℕ, zero, suc, ◌+◌, ◌<◌, ◌≤◌}
use mathlib.Core.Path.{◌≡◌, refl, ap₂, subst}
use native.Mathlib.Omega.{arith}
use native.Mathlib.Decide.{dec_lt, ℕ_discrete}
use Rattle.std.specs.Prelude.{Err}
use Rattle.ec20.specs.Judged.{Judged}
use Rattle.ec20.specs.Judged.{Fine, Fault}
use Rattle.refusals.specs.First.{First, Never}

-- no fault: the line holds of no record; a fault: it is m, at the first record of which the line holds
abbrev pub Judges : ℕ → ℕ → (ℕ → Type 0) → Judged → Type 0
Judges m count line Fine = Never count line
Judges m count line (Err r) = (r.number ≡ m) × First count line r.at

-- there is one first record
pub one-first : {count : ℕ} {line : ℕ → Type 0} {k j : ℕ} → First count line k → First count line j → k ≡ j
one-first {k = k} {j = j} a b =
    elim (dec_lt k j) [
      | yes h ↦ absurd (b.before k h a.holds)
      | no h ↦ elim (dec_lt j k) [ yes g ↦ absurd (a.before j g b.holds) | no g ↦ omega arith ]
    ]

-- so what is judged is decided by the line
pub judged-fine : (m count : ℕ) (line : ℕ → Type 0) (x : Judged) → Judges m count line x → Never count line → x ≡ Fine
judged-fine m count _ Fine j h = refl
judged-fine m count _ (Err r) j h = absurd (h r.at j.1.inside j.1.holds)

pub judged-fault : (m count : ℕ) (line : ℕ → Type 0) (k : ℕ) (x : Judged) → Judges m count line x → First count line k → x ≡ Fault m k
judged-fault m count _ k Fine j h = absurd (j k h.inside h.holds)
judged-fault m count _ k (Err r) j h = ap₂ Fault j.0 (one-first j.1 h)

-- ---- a search in record order, record by record

module _ (m : ℕ) (line : ℕ → Type 0) where
  -- the line holds of no record from a up to b
  abbrev Kept : ℕ → ℕ → Type 0
  Kept a b = (j : ℕ) → a ≤ j → j < b → line j → ⊥

  -- of the n records from k on, what a judgement says
  abbrev pub Says : ℕ → ℕ → Judged → Type 0
  Says k n Fine = Kept k (k + n)
  Says k n (Err r) = (r.number ≡ m) × (k ≤ r.at) × (r.at < k + n) × line r.at × Kept k r.at

  pub none_left : (k : ℕ) → Says k zero Fine
  none_left k = λ j a b l. omega arith

  pub this-one : (k n : ℕ) → line k → Says k (suc n) (Fault m k)
  this-one k n h = (refl, omega arith, omega arith, h, λ j a b l. omega arith)

  pub one_more : (k n : ℕ) (x : Judged) → (line k → ⊥) → Says (suc k) n x → Says k (suc n) x
  one_more k n Fine t s = λ j a b l. elim (ℕ_discrete j k) [ yes e ↦ t (subst line e l) | no e ↦ s j (omega arith) (omega arith) l ]
  one_more k n (Err r) t s = (
    s.0,
    omega (arith, s.1),
    omega (arith, s.2),
    s.3,
    λ j a b l. elim (ℕ_discrete j k) [ yes e ↦ t (subst line e l) | no e ↦ s.4 j (omega arith) b l ],
  )

  -- of all records
  pub searched-all : (count : ℕ) (x : Judged) → Says 0 count x → Judges m count line x
  searched-all count Fine s = λ j h l. s j (omega arith) (omega arith) l
  searched-all count (Err r) s =
      (s.0, record { inside = omega (arith, s.2); holds = s.3; before = λ j h l. s.4 j (omega arith) h l })
