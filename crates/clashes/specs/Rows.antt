-- Which places clash, as numbers: for each place one, in which a bit stands for each place after it, the next one lowest. So a list is looked at once, and
-- the report is made from what was found.
use Rattle.std.specs.Prelude.{ℕ, zero, suc, ◌+◌, ◌-◌, ◌*◌, ◌/◌, ◌%◌, Bool, true, false, ◌&&◌, List, [], ◌∷◌, ◌++◌, get_or, set, replicate, leb, eqb, Err}
use Rattle.ec20.specs.Basics.{pick, one_if, then}
use Rattle.ec20.specs.Devices.{ec20}
use Rattle.ec20.specs.Move.{block_fault}
use Rattle.ec20.specs.Judged.{Judged}
use Rattle.ec20.specs.Judged.{Fine, Fault}
use Rattle.units.specs.Clash.{Declared, none, clash_of}
use Rattle.units.specs.Report.{pair, block_of, room_fault, Reported, report_if}
use Rattle.units.specs.declared.Declaration.{Declaration}
use Rattle.clashes.specs.declared.Rows.{Rows}

-- a list of n declarations, of which these are all, or the first
abbrev pub counted : ℕ → List Declaration → Declared
counted n ds = record { count = n; at = λ (i : ℕ). get_or ds i none }

-- whether a judgement finds no fault
abbrev pub is_fine : Judged → Bool
is_fine Fine = true
is_fine (Err r) = false

-- the declaration's block is neither empty nor out of range
unfoldable pub right_block : Declaration → Bool
right_block a = is_fine (block_fault ec20 (block_of a))

-- a row with one place more ahead of it
abbrev pub grown_by : ℕ → Bool → ℕ
grown_by r c = one_if c + 2 * r

-- the row of place i: its clashes with the n places from j on
unfoldable pub row_of : Declared → ℕ → ℕ → ℕ → ℕ
row_of v i j zero = 0
row_of v i j (suc n) =
    let rest = row_of v i (suc j) n in
    grown_by rest (clash_of (v.at i) (v.at j))

-- no row yet
abbrev pub no_rows : Rows
no_rows = record { right = true; of = replicate 64 0 }

-- the row of place i put to the others, and whether its block is right too
unfoldable pub with_row : Rows → ℕ → Declaration → ℕ → Rows
with_row r i a row = record { right = r.right && right_block a; of = set r.of i row }

-- the rows of the first k of n places
unfoldable pub rows_of : Declared → ℕ → ℕ → Rows
rows_of v n zero = no_rows
rows_of v n (suc k) =
    let before = rows_of v n k in
    with_row before k (v.at k) (row_of v k (k + 1) (n - (k + 1)))

-- one pair, if they clash
unfoldable pub noted : Bool → ℕ → ℕ → List (List ℕ)
noted c i j = pick c (pair i j ∷ []) []

-- the pairs that a row tells: of place i with the n places from j on
unfoldable pub pairs_in : ℕ → ℕ → ℕ → ℕ → List (List ℕ)
pairs_in r i j zero = []
pairs_in r i j (suc n) =
    let rest = pairs_in (r / 2) i (suc j) n in
    noted (eqb (r % 2) 1) i j ++ rest

-- the pairs that the rows tell, of the n places from i on
unfoldable pub pairs_from : List ℕ → ℕ → ℕ → List (List ℕ)
pairs_from rs i zero = []
pairs_from rs i (suc n) =
    let rest = pairs_from rs (suc i) n in
    pairs_in (get_or rs i 0) i (suc i) n ++ rest

-- 10 of a list of n declarations, the first 64 of which have these rows
abbrev pub rows_fault : Rows → ℕ → Judged
rows_fault r n = pick (leb n 64 && r.right) Fine (Fault 10 0)

-- the report of a list of n declarations, the first 64 of which have these rows
unfoldable pub told_of : Rows → ℕ → List (List ℕ) → Reported
told_of r n b = report_if (then (rows_fault r n) (room_fault b)) (pairs_from r.of 0 n) b
