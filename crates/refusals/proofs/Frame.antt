-- 1, as the check computes it and as the table says it.
use Prim.Native.Nat.{ℕ, ◌+◌, ◌*◌, ◌≤◌}
use mathlib.Core.Bool.{Bool, true, false, ◌&&◌}
use mathlib.Core.List.{List}
use mathlib.Core.Path.{◌≡◌, refl}
use native.Mathlib.Omega.{arith}
use lib.Dec.{leb, eqb}
use lib.ListN.{length}
use borrow.Author.Tests.{leb-true, leb-false, eqb-true, eqb-false}
use Rattle.ec20.specs.File.{edition_of, count_of, distance_of, first_of, framed}
use Rattle.ec20.proofs.Tests.{both}
use Rattle.refusals.specs.Frame.{Line1, under_8, edition, no_records, many_records, distance, past_start, comment}

-- one of two tests fails
unless : {A : Type 0} (a b : Bool) → (a && b) ≡ false → (a ≡ false → A) → (b ≡ false → A) → A
unless true b e f g = g e
unless false b e f g = f refl

-- a frame that is not right breaks the line
pub unframed : (f : List ℕ) → framed f ≡ false → Line1 f
unfolding framed
unframed f e =
    unless _ (leb (first_of f) 4096) e (λ e.
    unless _ (leb (distance_of f) (length f)) e (λ e.
    unless _ (eqb (distance_of f) (20 * count_of f + 8)) e (λ e.
    unless _ (leb (count_of f) 2000) e (λ e.
    unless _ (leb 1 (count_of f)) e (λ e.
    unless (leb 8 (length f)) (eqb (edition_of f) 1) e (λ h. under_8 (leb-false _ _ h))
    (λ h. edition (eqb-false _ _ h)))
    (λ h. no_records (leb-false _ _ h)))
    (λ h. many_records (leb-false _ _ h)))
    (λ h. distance (eqb-false _ _ h)))
    (λ h. past_start (leb-false _ _ h)))
    (λ h. comment (leb-false _ _ h))

-- and one that is right does not
pub frame_right : (f : List ℕ) → framed f ≡ true → Line1 f → ⊥
unfolding framed
frame_right f e l =
    let a = both _ (leb (first_of f) 4096) e in
    let b = both _ (leb (distance_of f) (length f)) a.0 in
    let c = both _ (eqb (distance_of f) (20 * count_of f + 8)) b.0 in
    let d = both _ (leb (count_of f) 2000) c.0 in
    let g = both _ (leb 1 (count_of f)) d.0 in
    let h = both (leb 8 (length f)) (eqb (edition_of f) 1) g.0 in
    go (leb-true _ _ h.0) (eqb-true _ _ h.1) (leb-true _ _ g.1) (leb-true _ _ d.1) (eqb-true _ _ c.1) (leb-true _ _ b.1) (leb-true _ _ a.1) l
  where
    go : 8 ≤ length f → edition_of f ≡ 1 → 1 ≤ count_of f → count_of f ≤ 2000 → distance_of f ≡ 20 * count_of f + 8 → distance_of f ≤ length f
        → first_of f ≤ 4096
        → Line1 f
        → ⊥
    go a b c d g h i (under_8 x) = omega arith
    go a b c d g h i (edition x) = x b
    go a b c d g h i (no_records x) = omega arith
    go a b c d g h i (many_records x) = omega arith
    go a b c d g h i (distance x) = x g
    go a b c d g h i (past_start x) = omega arith
    go a b c d g h i (comment x) = omega arith

-- so the frame is right exactly if the line does not hold
pub right-frame : (f : List ℕ) → (Line1 f → ⊥) → framed f ≡ true
right-frame f n = go (framed f) refl
  where
    go : (t : Bool) → framed f ≡ t → t ≡ true
    go true q = refl
    go false q = absurd (n (unframed f q))

pub wrong-frame : (f : List ℕ) → Line1 f → framed f ≡ false
wrong-frame f l = go (framed f) refl
  where
    go : (t : Bool) → framed f ≡ t → t ≡ false
    go true q = absurd (frame_right f q l)
    go false q = refl
