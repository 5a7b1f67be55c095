-- "Report every clash once, by lower place, then higher; refuse only a list over 64 or an empty or out-of-range block (10), then a report under
-- 2,016 pairs (16)."
use Rattle.std.specs.Prelude.{ℕ, zero, suc, List, [], ◌∷◌, ◌++◌, length, drop, leb, Err}
use Rattle.ec20.specs.Basics.{pick, then}
use Rattle.ec20.specs.Devices.{ec20}
use Rattle.ec20.specs.Move.{Block, block, block_fault}
use Rattle.ec20.specs.Judged.{Judged}
use Rattle.ec20.specs.Judged.{Fine, Fault}
use Rattle.units.specs.Clash.{Declared, clash_of}
use Rattle.units.specs.Clashed.{Clashed}
use Rattle.units.specs.Clashed.{Clashes}
use Rattle.units.specs.declared.Declaration.{Declaration}

-- two places, the lower first
abbrev pub pair : ℕ → ℕ → List ℕ
pair i j = i ∷ j ∷ []

-- the clashes of place i with the n places from j on
unfoldable pub clashes_with : Declared → ℕ → ℕ → ℕ → List (List ℕ)
clashes_with v i j zero = []
clashes_with v i j (suc n) =
    let rest = clashes_with v i (suc j) n in
    pick (clash_of (v.at i) (v.at j)) (pair i j ∷ rest) rest

-- the clashes among the n places from i on: those of place i with what comes after it, then the others
unfoldable pub clashes_from : Declared → ℕ → ℕ → List (List ℕ)
clashes_from v i zero = []
clashes_from v i (suc n) =
    let rest = clashes_from v (suc i) n in
    clashes_with v i (suc i) n ++ rest

-- "every clash once, by lower place, then higher"
abbrev pub clashes_of : Declared → List (List ℕ)
clashes_of v = clashes_from v 0 v.count

-- the block of a declaration
abbrev pub block_of : Declaration → Block
block_of a = block a.start a.length

-- "an empty or out-of-range block (10)", of the n declarations from place i on: the line of 10 in document 01
unfoldable pub blocks_fault : Declared → ℕ → ℕ → Judged
blocks_fault v i zero = Fine
blocks_fault v i (suc n) =
    let rest = blocks_fault v (suc i) n in
    then (block_fault ec20 (block_of (v.at i))) rest

-- "a list over 64 or an empty or out-of-range block (10)"
unfoldable pub list_fault : Declared → Judged
list_fault v = then (pick (leb v.count 64) Fine (Fault 10 0)) (blocks_fault v 0 v.count)

-- "then a report under 2,016 pairs (16)"
unfoldable pub room_fault : List (List ℕ) → Judged
room_fault b = pick (leb 2016 (length b)) Fine (Fault 16 0)

unfoldable pub judge_clashes : Declared → List (List ℕ) → Judged
judge_clashes v b = then (list_fault v) (room_fault b)

-- the answer, and what the report holds after it
pub record Reported : Type 0 where
  pub answer : Clashed
  pub report : List (List ℕ)

abbrev pub reported : Clashed → List (List ℕ) → Reported
reported a b = record { answer = a; report = b }

-- the report b with these pairs as its first; what it holds past them stays as it was
unfoldable pub filled : List (List ℕ) → List (List ℕ) → List (List ℕ)
filled s b = s ++ drop (length s) b

-- a refused call changes nothing
abbrev pub report_if : Judged → List (List ℕ) → List (List ℕ) → Reported
report_if Fine s b = reported (Clashes (length s)) (filled s b)
report_if (Err r) s b = reported (Err r) b

-- the report of a list into b
unfoldable pub report_of : Declared → List (List ℕ) → Reported
report_of v b = report_if (judge_clashes v b) (clashes_of v) b

-- What a host is told: the number of the refusal, whose record is always 0, and how many clashes there are.
pub record ToldClashes : Type 0 where
  pub number : ℕ
  pub count : ℕ

unfoldable pub told_by_clashes : Clashed → ToldClashes
told_by_clashes (Err r) = record { number = r.number; count = 0 }
told_by_clashes (Clashes c) = record { number = 0; count = c }
