-- W as the code tells it: exact up to 10,000,000, and 10,000,001 for all that is more, so that no loop's count overflows.
use Rattle.std.specs.Prelude.{ℕ, min, Ok}
use Rattle.ec20.specs.Walked.{Walked}
use Rattle.ec20.specs.Walked.{Done, Bad}

-- one more than "W above 10,000,000" lets pass
abbrev pub cap : ℕ
cap = 10000001

-- the steps, or 10,000,001 if they are more; a record that is refused stays as it is
unfoldable pub capped : Walked → Walked
capped (Ok a) = Done a.next (min a.steps cap)
capped (Bad k) = Bad k
