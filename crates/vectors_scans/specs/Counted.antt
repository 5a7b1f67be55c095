-- The counts that a case is one more of, by what it wants and by its budget. 18 is no count.
use Rattle.std.specs.Prelude.{ℕ, ◌&&◌, List, eqb}
use Rattle.cases.specs.Filled.{one_more}
use Rattle.ec20.specs.Basics.{pick}
use Rattle.vectors_scans.specs.declared.judge.Answer.{Answer}
use Rattle.vectors_scans.specs.Wants.{plain_too}

-- 0 ended, 1 to 9 refused by that number, 10 watchdog
abbrev pub answer_count : Answer → ℕ
answer_count w = pick (eqb w.kind 0) w.number (pick (eqb w.kind 1) 0 10)

-- 11 and 12 the first error 1 and 2
abbrev pub error_count : ℕ → ℕ
error_count error = pick (eqb error 1) 11 (pick (eqb error 2) 12 18)

-- 13 to 15 a budget of 0, of 1, of the largest number
abbrev pub budget_count : ℕ → ℕ
budget_count budget = pick (eqb budget 0) 13 (pick (eqb budget 1) 14 (pick (eqb budget 4294967295) 15 18))

-- 16 ended with the last step of the budget
abbrev pub last_count : Answer → ℕ → ℕ
last_count w budget = pick (eqb w.kind 1 && eqb w.steps budget) 16 18

-- 17 also called without a budget
abbrev pub plain_count : Answer → ℕ → ℕ
plain_count w budget = pick (plain_too w budget) 17 18

unfoldable pub counted : Answer → ℕ → List ℕ → List ℕ
counted w budget met =
    let met' = one_more (budget_count budget) (one_more (error_count w.error) (one_more (answer_count w) met)) in
    one_more (plain_count w budget) (one_more (last_count w budget) met')
