-- What a scan finds and leaves. Document 02, (iv): "The memory gains two leftovers, 0 to 9 ms and 0 to 99 ms, carried from scan to scan".
use Rattle.std.specs.Prelude.{ℕ, ◌+◌, ◌/◌, ◌%◌, Bool, ◌&&◌, List, [], ◌∷◌, length, get_or, leb, eqb}
use Rattle.ec20.specs.declared.Units.{Units}
use Rattle.ec20.specs.Basics.{pick}
use Rattle.ec20.specs.Memory.{Memory}

-- the memory, on which the steps of a scan work, and the leftovers, which no step touches
pub record Plant : Type 0 where
  pub mem : Memory
  pub rest : List ℕ

abbrev pub plant : Memory → List ℕ → Plant
plant c r = record { mem = c; rest = r }

-- the leftover of a base, in milliseconds: in the table of leftovers that of the 10 ms timers is the first, that of the 100 ms timers the second; the
-- 1 ms timers have none
unfoldable pub leftover_of : ℕ → List ℕ → ℕ
leftover_of base r = pick (eqb base 100) (get_or r 1 0) (pick (eqb base 10) (get_or r 0 0) 0)

-- "two leftovers, 0 to 9 ms and 0 to 99 ms ..; a table with others is 9"
unfoldable pub leftovers_fit : List ℕ → Bool
leftovers_fit r = eqb (length r) 2 && leb (leftover_of 10 r) 9 && leb (leftover_of 100 r) 99

-- "Whole units from leftover plus elapsed go to every timer of that base in that scan": so many milliseconds, these leftovers
unfoldable pub units_in : ℕ → List ℕ → Units
units_in e r = record { hundreds = (leftover_of 100 r + e) / 100; tens = (leftover_of 10 r + e) / 10; ones = (leftover_of 1 r + e) / 1 }

-- the leftovers after them: what makes no whole unit
unfoldable pub rest_after : ℕ → List ℕ → List ℕ
rest_after e r = (leftover_of 10 r + e) % 10 ∷ (leftover_of 100 r + e) % 100 ∷ []
