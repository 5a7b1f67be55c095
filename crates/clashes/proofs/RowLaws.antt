-- Rows: one place more ahead, how large a row is, and what the rows of a list hold. Assumes nothing.
use Prim.Native.Nat.{ℕ, zero, suc, ◌+◌, ◌-◌, ◌^◌, ◌<◌, ◌≤◌}
use mathlib.Core.Bool.{Bool, true, false}
use mathlib.Core.Path.{◌≡◌, refl, sym, ap, subst, ◌∙◌}
use native.Mathlib.Nat.{not-suc-le-zero, le_of_lt, le_antisymm, ne_of_lt, le_of_suc-le-suc, lt_of_lt_of_le, pow-le-pow_right}
use native.Mathlib.Numerals.{add-one}
use native.Mathlib.Omega.{arith}
use lib.ListN.{length, get_or, set, length-set, length-replicate}
use lib.Seq.{get_or-set_same, get_or-set_other}
use lib.Dec.{ltb}
use borrow.Author.Tests.{ltb-true, ltb-false}
use Rattle.ec20.proofs.Tests.{one-small}
use Rattle.ec20.specs.Basics.{one_if}
use Rattle.units.specs.Clash.{Declared, clash_of}
use Rattle.clashes.specs.Rows.{grown_by, row_of, no_rows, with_row, rows_of}
use Rattle.clashes.specs.declared.Rows.{Rows}

-- one place more, ahead of the others
pub row-ahead : (v : Declared) (i j n m : ℕ) → n ≡ suc m → grown_by (row_of v i (suc j) m) (clash_of (v.at i) (v.at j)) ≡ row_of v i j n
unfolding row_of
row-ahead v i j n m e = subst (λ (k : ℕ). grown_by (row_of v i (suc j) m) (clash_of (v.at i) (v.at j)) ≡ row_of v i j k) (sym e) refl

-- the same of the place ahead of j, where the row goes up to place n
pub row-turn : (v : Declared) (i j n r : ℕ) (c : Bool) → 0 < j → j ≤ n → r ≡ row_of v i j (n - j) → c ≡ clash_of (v.at i) (v.at (j - 1)) → grown_by r c ≡ row_of v i (j - 1) (n - (j - 1))
row-turn v i j n r c p l er ec =
    let whole : row_of v i j (n - j) ≡ row_of v i (suc (j - 1)) (n - j) = ap (λ (k : ℕ). row_of v i k (n - j)) {x = j} {y = suc (j - 1)} (omega arith) in
    rw (er ∙ whole, ec) (row-ahead v i (j - 1) (n - (j - 1)) (n - j) (omega arith))

-- a row of n places is below 2 ^ n
pub row_below : (v : Declared) (i j n : ℕ) → row_of v i j n < 2 ^ n
unfolding row_of
row_below v i j zero = omega arith
row_below v i j (suc n) =
    let rest : row_of v i (suc j) n < 2 ^ n = row_below v i (suc j) n in
    let bit : one_if (clash_of (v.at i) (v.at j)) < 2 = one-small (clash_of (v.at i) (v.at j)) in
    omega (arith, rest, bit)

-- no place
pub row-none : (v : Declared) (i j n : ℕ) → n ≡ 0 → 0 ≡ row_of v i j n
unfolding row_of
row-none v i j n e = subst (λ (k : ℕ). 0 ≡ row_of v i j k) (sym e) refl

-- a row of under 64 places has room for one more
pub row_fits : (v : Declared) (i j n : ℕ) → n < 64 → row_of v i j n < 2 ^ 63
row_fits v i j n l = lt_of_lt_of_le (row_below v i j n) (pow-le-pow_right {n = 2} (omega arith) {i = n} {j = 63} (omega arith))

-- ---- the rows of a list

-- none
pub rows_none : (v : Declared) (n : ℕ) (r : Rows) → r ≡ no_rows → r ≡ rows_of v n 0
unfolding rows_of
rows_none v n r e = e

-- one more
pub rows_more : (v : Declared) (n k : ℕ) (r s : Rows) → r ≡ rows_of v n k → s ≡ with_row r k (v.at k) (row_of v k (k + 1) (n - (k + 1))) → s ≡ rows_of v n (k + 1)
unfolding rows_of
rows_more v n k r s er es = es ∙ ap (λ (z : Rows). with_row z k (v.at k) (row_of v k (k + 1) (n - (k + 1)))) er ∙ ap (rows_of v n) (sym (add-one k))

pub rows-length : (v : Declared) (n k : ℕ) → length (rows_of v n k).of ≡ 64
unfolding rows_of with_row
rows-length v n zero = length-replicate {A = ℕ} 64 0
rows-length v n (suc k) = length-set (rows_of v n k).of k _ ∙ rows-length v n k

row-at-by : (v : Declared) (n k i : ℕ) → suc k ≤ 64 → i < suc k → (i < k → get_or (rows_of v n k).of i 0 ≡ row_of v i (i + 1) (n - (i + 1)))
    → (t : Bool) → ltb i k ≡ t → get_or (rows_of v n (suc k)).of i 0 ≡ row_of v i (i + 1) (n - (i + 1))
unfolding rows_of with_row
row-at-by v n k i h l before true e = get_or-set_other (rows_of v n k).of k i _ 0 (ne_of_lt (ltb-true i k e)) ∙ before (ltb-true i k e)
row-at-by v n k i h l before false e =
    let same : i ≡ k = le_antisymm (le_of_suc-le-suc l) (ltb-false i k e) in
    subst (λ (j : ℕ). get_or (set (rows_of v n k).of k (row_of v k (k + 1) (n - (k + 1)))) j 0 ≡ row_of v j (j + 1) (n - (j + 1))) (sym same)
    (get_or-set_same (rows_of v n k).of k _ 0 (subst (λ (m : ℕ). k < m) (sym (rows-length v n k)) h))

-- entry i of the first k rows is the row of place i
pub row_at : (v : Declared) (n k i : ℕ) → k ≤ 64 → i < k → get_or (rows_of v n k).of i 0 ≡ row_of v i (i + 1) (n - (i + 1))
row_at v n zero i h l = absurd (not-suc-le-zero l)
row_at v n (suc k) i h l = row-at-by v n k i h l (row_at v n k i (le_of_lt h)) (ltb i k) refl
