-- Tables filled entry by entry. Assumes nothing.
use Prim.Native.Nat.{ℕ, zero, suc, ◌+◌, ◌<◌, ◌≤◌}
use mathlib.Core.List.{List, [], ◌∷◌}
use mathlib.Core.Path.{◌≡◌, refl, sym, subst, ◌∙◌}
use native.Mathlib.Decide.{ℕ_discrete, dec_lt}
use native.Mathlib.Omega.{arith}
use lib.ListN.{get_or, length, set, replicate, length-set, length-replicate}
use lib.Seq.{get_or-set_same, get_or-set_other, ext_get_or}
use Rattle.ec20.specs.Code.{program_in}
use Rattle.ec20.specs.Control.{Controls, control_of, controls_of}
use Rattle.ec20.specs.File.{Records}
use Rattle.jumps.proofs.Within.{end-past}
use Rattle.jumps.specs.Prepared.{goes_to, Prepared}

pub zeros : (n j : ℕ) → get_or {A = ℕ} (replicate n 0) j 0 ≤ 0
zeros zero j = omega arith
zeros (suc n) zero = omega arith
zeros (suc n) (suc j) = zeros n j

-- entries at most m, with one more such entry
pub put-most : (l : List ℕ) (i v j m : ℕ) → ((k : ℕ) → get_or l k 0 ≤ m) → v ≤ m → get_or (set l i v) j 0 ≤ m
put-most [] i v j m h b = h j
put-most (x ∷ xs) zero v zero m h b = b
put-most (x ∷ xs) zero v (suc j) m h b = h (suc j)
put-most (x ∷ xs) (suc i) v zero m h b = h zero
put-most (x ∷ xs) (suc i) v (suc j) m h b = put-most xs i v j m (λ k. h (suc k)) b

-- a table whose first k entries are those of g, and the others 0
pub record Filled (g : ℕ → ℕ) (k : ℕ) (t : List ℕ) : Type 0 where
  pub size : length t ≡ 2000
  pub told : (j : ℕ) → j < k → get_or t j 0 ≡ g j
  pub rest : (j : ℕ) → k ≤ j → get_or t j 0 ≡ 0

pub filled_none : (g : ℕ → ℕ) → Filled g 0 (replicate 2000 0)
filled_none g =
    record {
      size = length-replicate {A = ℕ} 2000 0;
      told = λ j h. absurd (omega arith);
      rest = λ j h. omega (arith, zeros 2000 j);
    }

pub filled_more : (g : ℕ → ℕ) (k v : ℕ) (t : List ℕ) → k < 2000 → Filled g k t → v ≡ g k → Filled g (k + 1) (set t k v)
filled_more g k v t b s e =
    record {
      size = length-set t k v ∙ s.size;
      told = λ j h. elim (ℕ_discrete j k) [
        | yes q ↦ subst (λ (i : ℕ). get_or (set t k v) i 0 ≡ g i) (sym q) (get_or-set_same t k v 0 (omega (arith, s.size)) ∙ e)
        | no q ↦ get_or-set_other t k j v 0 q ∙ s.told j (omega arith)
      ];
      rest = λ j h. get_or-set_other t k j v 0 (λ q. omega arith) ∙ s.rest j (omega arith);
    }

-- past the last record there is END, which has 0
pub filled-all : (rs : Records) (k : ℕ) (t : List ℕ) → rs.count ≤ k
    → Filled (λ j. goes_to (controls_of (program_in rs)) rs.count j (controls_of (program_in rs) j)) k t
    → Prepared (controls_of (program_in rs)) rs.count t
unfolding Prepared goes_to control_of
filled-all rs k t h s j =
    elim (dec_lt j k) [
      | yes b ↦ s.told j b
      | no b ↦ s.rest j (omega arith) ∙ rw (end-past rs j (omega arith)) refl
    ]

-- the entries are the whole table
pub one_table : (code : Controls) (count : ℕ) (s t : List ℕ) → length s ≡ length t → Prepared code count s → Prepared code count t → s ≡ t
unfolding Prepared
one_table code count s t e p q = ext_get_or 0 s t e (λ i h. p i ∙ sym (q i))
