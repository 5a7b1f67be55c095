-- The report as it is filled pair by pair, what a row tells, and how many pairs there are at most. Assumes nothing.
use Prim.Native.Nat.{ℕ, zero, suc, ◌+◌, ◌-◌, ◌/◌, ◌%◌, ◌<◌, ◌≤◌}
use mathlib.Core.Bool.{Bool, true, false}
use mathlib.Core.List.{List, [], ◌∷◌, ◌++◌, append_assoc, append-nil}
use mathlib.Core.Path.{◌≡◌, refl, sym, ap, subst, ◌∙◌}
use native.Mathlib.Omega.{arith}
use lib.ListN.{length, get_or, set, drop, length-append, length-drop}
use lib.Seq.{drop-cons, set_at}
use lib.Dec.{eqb}
use Rattle.units.proofs.Pairs.{pairs_of, of-64}
use Rattle.units.specs.Report.{pair, filled}
use Rattle.clashes.specs.Rows.{noted, pairs_in, pairs_from}

-- ---- the report

pub filled_none : (b : List (List ℕ)) → filled [] b ≡ b
unfolding filled
filled_none b = refl

-- one pair more
pub filled_more : (s b : List (List ℕ)) (p : List ℕ) (n : ℕ) → n ≡ length s → n < length (filled s b) → set (filled s b) n p ≡ filled (s ++ (p ∷ [])) b
unfolding filled
filled_more s b p n e l =
    let h : length s < length b = omega (arith, length-append s (drop (length s) b), length-drop (length s) b, e, l) in
    ap (λ (t : List (List ℕ)). set (s ++ t) n p) (drop-cons b (length s) [] h)
    ∙ set_at s (get_or b (length s) []) (drop (suc (length s)) b) p n (sym e)
    ∙ ap (λ (k : ℕ). s ++ (p ∷ drop k b)) {x = suc (length s)} {y = length (s ++ (p ∷ []))} (sym (length-append s (p ∷ []) ∙ omega arith))
    ∙ sym (append_assoc s (p ∷ []) (drop (length (s ++ (p ∷ []))) b))

-- ---- `note`

pub note-told : (s b r : List (List ℕ)) (at i j : ℕ) (c : Bool) → c ≡ true → at < length r → at ≡ length s → r ≡ filled s b → set r at (pair i j) ≡ filled (s ++ noted c i j) b
unfolding noted
note-told s b r at i j c ec l e er = rw (ec, er) (filled_more s b (pair i j) at e (subst (λ (z : List (List ℕ)). at < length z) er l))

pub note-none : (s b r : List (List ℕ)) (i j : ℕ) (c : Bool) → c ≡ false → r ≡ filled s b → r ≡ filled (s ++ noted c i j) b
unfolding noted
note-none s b r i j c ec er = rw ec (er ∙ ap (λ (z : List (List ℕ)). filled z b) (sym (append-nil s)))

pub noted-length : (c t : Bool) (i j at : ℕ) → c ≡ t → at + length (noted c i j) ≡ at + length (noted t i j)
noted-length c t i j at e = rw e

pub noted-most : (c : Bool) (i j : ℕ) → length (noted c i j) ≤ 1
unfolding noted
noted-most true i j = omega arith
noted-most false i j = omega arith

-- ---- a row

-- a row of n places tells n pairs at most
pub pairs-most : (r i j n : ℕ) → length (pairs_in r i j n) ≤ n
unfolding pairs_in
pairs-most r i j zero = omega arith
pairs-most r i j (suc n) =
    let one : length (noted (eqb (r % 2) 1) i j) ≤ 1 = noted-most (eqb (r % 2) 1) i j in
    let rest : length (pairs_in (r / 2) i (suc j) n) ≤ n = pairs-most (r / 2) i (suc j) n in
    omega (arith, one, rest, length-append (noted (eqb (r % 2) 1) i j) (pairs_in (r / 2) i (suc j) n))

-- the first of its places, and the others
pub pairs-step : (r i j n m : ℕ) → n ≡ suc m → pairs_in r i j n ≡ noted (eqb (r % 2) 1) i j ++ pairs_in (r / 2) i (j + 1) m
unfolding pairs_in
pairs-step r i j n m e = ap (pairs_in r i j) e ∙ ap (λ (k : ℕ). noted (eqb (r % 2) 1) i j ++ pairs_in (r / 2) i k m) {x = suc j} {y = j + 1} (omega arith)

-- a row in which no place is left to tell
zero-tells : (i j n : ℕ) → pairs_in 0 i j n ≡ []
unfolding pairs_in noted
zero-tells i j zero = refl
zero-tells i j (suc n) = zero-tells i (suc j) n

pub pairs-zero : (r i j n : ℕ) → r ≡ 0 → pairs_in r i j n ≡ []
pairs-zero r i j n e = ap (λ (k : ℕ). pairs_in k i j n) e ∙ zero-tells i j n

-- none
pub pairs-none : (r i j n : ℕ) → n ≡ 0 → pairs_in r i j n ≡ []
unfolding pairs_in
pairs-none r i j n e = ap (pairs_in r i j) e

-- ---- all rows

-- the first of them, and the others
pub rows_step : (rs : List ℕ) (i n m : ℕ) → n ≡ suc m → pairs_from rs i n ≡ pairs_in (get_or rs i 0) i (i + 1) m ++ pairs_from rs (i + 1) m
unfolding pairs_from
rows_step rs i n m e = ap (pairs_from rs i) e ∙ ap (λ (k : ℕ). pairs_in (get_or rs i 0) i k m ++ pairs_from rs k m) {x = suc i} {y = i + 1} (omega arith)

-- none
pub rows_end : (rs : List ℕ) (i n : ℕ) → n ≡ 0 → pairs_from rs i n ≡ []
unfolding pairs_from
rows_end rs i n e = ap (pairs_from rs i) e

-- ---- room for them

pairs-of-step : (n m : ℕ) → n ≡ suc m → pairs_of n ≡ m + pairs_of m
unfolding pairs_of
pairs-of-step n m e = ap pairs_of e

-- of n places the first i are told: there is room for the next row, and after it for the others
pub room-left : (at i n room : ℕ) → i < n → at + pairs_of (n - i) ≤ 2016 → 2016 ≤ room → at + (n - (i + 1)) ≤ room
room-left at i n room l h g =
    let e : pairs_of (n - i) ≡ (n - (i + 1)) + pairs_of (n - (i + 1)) = pairs-of-step (n - i) (n - (i + 1)) (omega arith) in
    omega (arith, l, h, g, e)

pub still-room : (at i n at2 : ℕ) (one : List (List ℕ)) → i < n → at + pairs_of (n - i) ≤ 2016 → length one ≤ n - (i + 1) → at2 ≡ at + length one → at2 + pairs_of (n - (i + 1)) ≤ 2016
still-room at i n at2 one l h g f =
    let e : pairs_of (n - i) ≡ (n - (i + 1)) + pairs_of (n - (i + 1)) = pairs-of-step (n - i) (n - (i + 1)) (omega arith) in
    omega (arith, l, h, g, f, e)

pub room-at-first : (n : ℕ) → n ≤ 64 → 0 + pairs_of (n - 0) ≤ 2016
room-at-first n l = subst (λ (k : ℕ). 0 + pairs_of k ≤ 2016) {x = n} {y = n - 0} (omega arith) (omega (arith, of-64 n l))
