-- The report by the rows is the report of the list. Assumes nothing.
use Prim.Native.Nat.{ℕ, zero, suc, ◌+◌, ◌-◌, ◌*◌, ◌/◌, ◌%◌, ◌<◌, ◌≤◌, min}
use mathlib.Core.Bool.{Bool, true, false, ◌&&◌, and_assoc, and-true}
use mathlib.Core.List.{List, ◌∷◌, ◌++◌}
use mathlib.Core.Path.{◌≡◌, refl, sym, ap, ap₂, subst, ◌∙◌}
use native.Mathlib.Omega.{arith}
use lib.ListN.{length, get_or}
use lib.Dec.{ltb, leb, eqb}
use borrow.Author.Tests.{eq-eqb, ne_eqb, le-leb, lt-leb, leb-true, leb-false}
use Rattle.std.specs.Prelude.{Err}
use Rattle.ec20.proofs.Tests.{both}
use Rattle.ec20.specs.Basics.{pick, then}
use Rattle.ec20.specs.Devices.{ec20}
use Rattle.ec20.specs.Move.{block_fault}
use Rattle.ec20.specs.Judged.{Judged}
use Rattle.ec20.specs.Judged.{Fine, Fault}
use Rattle.units.specs.Clash.{Declared, clash_of}
use Rattle.units.specs.Report.{pair, clashes_with, clashes_from, clashes_of, block_of, blocks_fault, list_fault, room_fault, judge_clashes, reported, filled, report_if, report_of}
use Rattle.units.specs.Clashed.{Clashed}
use Rattle.units.specs.Clashed.{Refused, Clashes}
use Rattle.clashes.specs.Rows.{is_fine, right_block, grown_by, row_of, with_row, rows_of, noted, pairs_in, pairs_from, told_of}
use Rattle.clashes.specs.declared.Rows.{Rows}
use Rattle.clashes.proofs.RowLaws.{row_at}

-- ---- the ways out of `told`

pub too_many : (r : Rows) (n : ℕ) (b : List (List ℕ)) → leb n 64 && r.right ≡ false → reported (Refused 10 0) b ≡ told_of r n b
unfolding told_of
too_many r n b h = rw h refl

pub no_room : (r : Rows) (n : ℕ) (b : List (List ℕ)) → leb n 64 && r.right ≡ true → length b < 2016 → reported (Refused 16 0) b ≡ told_of r n b
unfolding told_of room_fault
no_room r n b h l = rw (h, lt-leb 2016 (length b) l) refl

pub all_told : (r : Rows) (n k : ℕ) (b after : List (List ℕ)) → leb n 64 && r.right ≡ true → 2016 ≤ length b → k ≡ length (pairs_from r.of 0 n) → after ≡ filled (pairs_from r.of 0 n) b
    → reported (Clashes k) after ≡ told_of r n b
unfolding told_of room_fault
all_told r n k b after h l ek ea = rw (h, le-leb 2016 (length b) l, ek, ea) refl

-- ---- what the rows of a list tell

half : (c : Bool) (n : ℕ) → grown_by n c / 2 ≡ n
half true n = omega arith
half false n = omega arith

odd : (c : Bool) (n : ℕ) → eqb (grown_by n c % 2) 1 ≡ c
odd true n = eq-eqb ((1 + 2 * n) % 2) 1 (omega arith)
odd false n = ne_eqb ((0 + 2 * n) % 2) 1 (λ e. omega (arith, e))

noted-is : (c : Bool) (i j : ℕ) (rest : List (List ℕ)) → noted c i j ++ rest ≡ pick c (pair i j ∷ rest) rest
unfolding noted
noted-is true i j rest = refl
noted-is false i j rest = refl

-- a row of place i tells its clashes
pub row-tells : (v : Declared) (i j n : ℕ) → pairs_in (row_of v i j n) i j n ≡ clashes_with v i j n
unfolding row_of pairs_in clashes_with
row-tells v i j zero = refl
row-tells v i j (suc n) =
    let c : Bool = clash_of (v.at i) (v.at j) in
    let rest : ℕ = row_of v i (suc j) n in
    ap₂ (λ (t : Bool) (k : ℕ). noted t i j ++ pairs_in k i (suc j) n) (odd c rest) (half c rest)
    ∙ ap (λ (z : List (List ℕ)). noted c i j ++ z) (row-tells v i (suc j) n)
    ∙ noted-is c i j (clashes_with v i (suc j) n)

-- rows that are those of the places from i on tell all clashes among these
rows_tell : (v : Declared) (rs : List ℕ) (n i k : ℕ) → i + k ≡ n → ((p : ℕ) → p < n → get_or rs p 0 ≡ row_of v p (p + 1) (n - (p + 1))) → pairs_from rs i k ≡ clashes_from v i k
unfolding pairs_from clashes_from
rows_tell v rs n i zero e each = refl
rows_tell v rs n i (suc k) e each =
    let one : get_or rs i 0 ≡ row_of v i (suc i) k = each i (omega arith) ∙ ap (λ (p : ℕ). row_of v i p (n - (i + 1))) {x = i + 1} {y = suc i} (omega arith) ∙ ap (row_of v i (suc i)) {x = n - (i + 1)} {y = k} (omega arith) in
    ap₂ (λ (x y : List (List ℕ)). x ++ y) (ap (λ (r : ℕ). pairs_in r i (suc i) k) one ∙ row-tells v i (suc i) k) (rows_tell v rs n (suc i) k (omega arith) each)

-- ---- 10

-- the first judgement, and then another: fine where both are
then-fine : (a b : Judged) → is_fine (then a b) ≡ is_fine a && is_fine b
then-fine Fine b = refl
then-fine (Err r) b = refl

-- the blocks of one declaration more, at the end
blocks_more : (v : Declared) (i n : ℕ) → is_fine (blocks_fault v i (suc n)) ≡ is_fine (blocks_fault v i n) && right_block (v.at (i + n))
unfolding blocks_fault right_block
blocks_more v i zero =
    then-fine (block_fault ec20 (block_of (v.at i))) Fine ∙ and-true (right_block (v.at i)) ∙ ap (λ (p : ℕ). right_block (v.at p)) {x = i} {y = i + 0} (omega arith)
blocks_more v i (suc n) =
    let first : Judged = block_fault ec20 (block_of (v.at i)) in
    let others : Judged = blocks_fault v (suc i) n in
    then-fine first (blocks_fault v (suc i) (suc n))
    ∙ ap (λ (t : Bool). is_fine first && t) (blocks_more v (suc i) n)
    ∙ sym (and_assoc (is_fine first) (is_fine others) (right_block (v.at (suc i + n))))
    ∙ ap (λ (t : Bool). t && right_block (v.at (suc i + n))) (sym (then-fine first others))
    ∙ ap (λ (p : ℕ). is_fine (then first others) && right_block (v.at p)) {x = suc i + n} {y = i + suc n} (omega arith)

-- whether the blocks of the first k are right
rows_right : (v : Declared) (n k : ℕ) → (rows_of v n k).right ≡ is_fine (blocks_fault v 0 k)
unfolding rows_of with_row blocks_fault
rows_right v n zero = refl
rows_right v n (suc k) = ap (λ (t : Bool). t && right_block (v.at k)) (rows_right v n k) ∙ sym (blocks_more v 0 k ∙ ap (λ (p : ℕ). is_fine (blocks_fault v 0 k) && right_block (v.at p)) {x = 0 + k} {y = k} (omega arith))

-- no other fault is found than 10 at record 0
abbrev Ten : Judged → Type 0
Ten j = j ≡ pick (is_fine j) Fine (Fault 10 0)

then-ten : (t : Bool) (j : Judged) → Ten j → Ten (then (pick t Fine (Fault 10 0)) j)
then-ten true j e = e
then-ten false j e = refl

ten : (v : Declared) (i n : ℕ) → Ten (blocks_fault v i n)
unfolding blocks_fault block_fault
ten v i zero = refl
ten v i (suc n) = then-ten (ltb 0 (v.at i).length && leb ((v.at i).start + (v.at i).length) 8000) (blocks_fault v (suc i) n) (ten v (suc i) n)

-- ---- the report

within_64 : (v : Declared) (b : List (List ℕ)) (n : ℕ) → n ≡ v.count → n ≤ 64 → told_of (rows_of v n n) v.count b ≡ report_of v b
unfolding told_of report_of judge_clashes list_fault
within_64 v b n e l =
    let test : leb v.count 64 ≡ true = le-leb v.count 64 (subst (λ (k : ℕ). k ≤ 64) e l) in
    let right : (rows_of v n n).right ≡ is_fine (blocks_fault v 0 v.count) = rows_right v n n ∙ ap (λ (k : ℕ). is_fine (blocks_fault v 0 k)) e in
    let pairs : pairs_from (rows_of v n n).of 0 v.count ≡ clashes_of v = ap (pairs_from (rows_of v n n).of 0) (sym e) ∙ rows_tell v (rows_of v n n).of n 0 n (omega arith) (λ p h. row_at v n n p l h) ∙ ap (clashes_from v 0) e in
    rw (test, right, pairs) (ap (λ (j : Judged). report_if (then j (room_fault b)) (clashes_of v) b) (sym (ten v 0 v.count)))

over_64 : (v : Declared) (b : List (List ℕ)) (r : Rows) → 64 < v.count → told_of r v.count b ≡ report_of v b
unfolding told_of report_of judge_clashes list_fault
over_64 v b r l = rw (lt-leb v.count 64 l) refl

by_count : (v : Declared) (b : List (List ℕ)) (t : Bool) → leb v.count 64 ≡ t → told_of (rows_of v (min v.count 64) (min v.count 64)) v.count b ≡ report_of v b
by_count v b true e = within_64 v b (min v.count 64) (omega (arith, leb-true v.count 64 e)) (omega arith)
by_count v b false e = over_64 v b (rows_of v (min v.count 64) (min v.count 64)) (leb-false v.count 64 e)

-- the report by the rows of a list is the report of the list
pub told_is : (v : Declared) (b : List (List ℕ)) → told_of (rows_of v (min v.count 64) (min v.count 64)) v.count b ≡ report_of v b
told_is v b = by_count v b (leb v.count 64) refl

-- what `told` knows where it goes on
pub at-most-64 : (n : ℕ) (t : Bool) → leb n 64 && t ≡ true → n ≤ 64
at-most-64 n t e = leb-true n 64 (both (leb n 64) t e).0

-- the same, as the calls give it: m places are looked at, their rows are r, and from these the report is made
pub by_rows : (v : Declared) (b : List (List ℕ)) (m : ℕ) (r : Rows) (a : Clashed) (after : List (List ℕ)) → m ≡ min v.count 64 → r ≡ rows_of v m m → reported a after ≡ told_of r v.count b → reported a after ≡ report_of v b
by_rows v b m r a after em er et = et ∙ ap (λ (z : Rows). told_of z v.count b) (er ∙ ap (λ (k : ℕ). rows_of v k k) em) ∙ told_is v b
