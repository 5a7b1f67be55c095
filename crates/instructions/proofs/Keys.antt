-- What the last arm of a match on a number knows: it is none of the keys. Assumes nothing.
use Prim.Native.Nat.{ℕ, zero, suc, ◌+◌, ◌≤◌}
use mathlib.Core.Path.{◌≡◌}
use native.Mathlib.Decide.{dec_le}
use native.Mathlib.Omega.{arith}

-- none of the j numbers from a on, beside what else is known
abbrev pub None : Type 0 → ℕ → ℕ → ℕ → Type 0
None B a zero n = B
None B a (suc j) n = None B a j n × (n ≡ a + j → ⊥)

pub beside : (B : Type 0) (a j n : ℕ) → None B a j n → B
beside B a zero n h = h
beside B a (suc j) n h = beside B a j n h.0

-- not below them, so past them
pub past : (B : Type 0) (a j n : ℕ) → None B a j n → a ≤ n → a + j ≤ n
past B a zero n h l = omega arith
past B a (suc j) n h l = let p : a + j ≤ n = past B a j n h.0 l in let q = h.1 in omega arith

-- of the number before them and them, that one
pub only : (B : Type 0) (a j n : ℕ) → None B (a + 1) j n → a ≤ n → n ≤ a + j → n ≡ a
only B a j n h l m =
    elim (dec_le (a + 1) n) [
      | yes g ↦ let p : a + 1 + j ≤ n = past B (a + 1) j n h g in omega arith
      | no g ↦ omega arith
    ]
