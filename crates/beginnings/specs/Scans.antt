-- What a call of scan asks for beside its files.
use Rattle.std.specs.Prelude.{ℕ, Bool, true, List, if◌then◌else◌, nat_eq}
use Rattle.calls.specs.Numbers.{is_number, number_of}
use Rattle.calls.specs.Text.{word_of, count_of}
use Rattle.ec20.specs.Scan.{default_budget}

-- "BUDGET is 200,000 where the call names none": it may lack, and is a number where it does not
abbrev pub budget_named : List ℕ → Bool
budget_named call = if nat_eq (count_of call) 5 then is_number (word_of call 4) else true

abbrev pub budget_number : List ℕ → ℕ
budget_number call = if nat_eq (count_of call) 5 then number_of (word_of call 4) else default_budget
