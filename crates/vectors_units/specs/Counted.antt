-- The counts that a case is one more of.
use Rattle.std.specs.Prelude.{ℕ, ◌==◌, nat_lt, Err}
use Rattle.ec20.specs.Basics.{pick}
use Rattle.units.specs.Clashed.{Clashed}
use Rattle.units.specs.Clashed.{Clashes}

-- 18 a list of at most 64, 19 a longer one
abbrev pub list_count : ℕ → ℕ
list_count n = pick (nat_lt 64 n) 19 18

-- 10 and 16 refused by that number; 0 no clash, 1 some, 2 all 2,016 clashes
abbrev pub clash_count : Clashed → ℕ
clash_count (Err r) = r.number
clash_count (Clashes n) = pick (n == 0) 0 (pick (n == 2016) 2 1)
