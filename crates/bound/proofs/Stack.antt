-- The tables of loops as a stack.
use Prim.Native.Nat.{ℕ, zero, suc, ◌+◌, ◌-◌, ◌<◌, ◌≤◌}
use mathlib.Core.List.{List, ◌∷◌}
use mathlib.Core.Path.{◌≡◌, refl, ap}
use native.Mathlib.Omega.{arith}
use native.Mathlib.Numerals.{add-one}
use lib.ListN.{get_or, set, length}
use lib.Seq.{get_or-set_same, get_or-set_other}
use Rattle.bound.specs.Small.{frame, loops_of}
use Rattle.bound.specs.Safe.{fors_of}
use Rattle.bound.proofs.Left.{fors}

pub length-loops : (d : ℕ) (l b : List ℕ) → length (loops_of d l b) ≡ d
unfolding loops_of
length-loops zero l b = refl
length-loops (suc d) l b = ap suc (length-loops d l b)

pub fors-same : (d : ℕ) (l b : List ℕ) → fors_of d b ≡ fors (loops_of d l b)
unfolding loops_of fors_of
fors-same zero l b = refl
fors-same (suc d) l b = ap ((get_or b d 0 - 1) ∷◌) (fors-same d l b)

-- a store at or above the depth is not seen
unseen-left : (d i v : ℕ) (l b : List ℕ) → d ≤ i → loops_of d (set l i v) b ≡ loops_of d l b
unfolding loops_of
unseen-left zero i v l b h = refl
unseen-left (suc d) i v l b h = rw (get_or-set_other l i d v 0 (omega arith), unseen-left d i v l b (omega arith))

unseen-back : (d i v : ℕ) (l b : List ℕ) → d ≤ i → loops_of d l (set b i v) ≡ loops_of d l b
unfolding loops_of
unseen-back zero i v l b h = refl
unseen-back (suc d) i v l b h = rw (get_or-set_other b i d v 0 (omega arith), unseen-back d i v l b (omega arith))

-- one loop more
pub opened : (d x h : ℕ) (l b : List ℕ) → d < length l → d < length b → loops_of (d + 1) (set l d x) (set b d h) ≡ frame x h ∷ loops_of d l b
unfolding loops_of
opened d x h l b p q =
    let u = unseen-left d d x l (set b d h) (omega arith) in
    let v = unseen-back d d h l b (omega arith) in
    rw add-one (rw (get_or-set_same l d x 0 p, get_or-set_same b d h 0 q, u, v))

-- one pass less
pub passed : (d x : ℕ) (l b : List ℕ) → d < length l → loops_of (suc d) (set l d x) b ≡ frame x (get_or b d 0) ∷ loops_of d l b
unfolding loops_of
passed d x l b p = rw (get_or-set_same l d x 0 p, unseen-left d d x l b (omega arith))
