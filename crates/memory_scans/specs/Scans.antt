-- A scan over a memory file of so many bytes. One of another size than 16,892 is refused by 9, "memory table of wrong size", which "the scan adds" to
-- what the check refuses. So is one of the right size with other leftovers than "0 to 9 ms and 0 to 99 ms", by the scan itself.
use Rattle.std.specs.Prelude.{ℕ, List, eqb, Err, Ok}
use Rattle.ec20.specs.Basics.{pick}
use Rattle.ec20.specs.Check.{check_of}
use Rattle.ec20.specs.Plant.{Plant}
use Rattle.ec20.specs.Scan.{Scan, scan, scan_of}
use Rattle.ec20.specs.Scanned.{Scanned}
use Rattle.ec20.specs.Scanned.{Refused}
use Rattle.ec20.specs.Verdict.{Verdict}

-- the answer over a memory file of another size
unfoldable pub unsized : Verdict → Scanned
unsized (Ok a) = Refused 9 0
unsized (Err r) = Err r

-- the program file, the size of the memory file, elapsed milliseconds, budget, memory and leftovers
unfoldable pub scan_in : List ℕ → ℕ → ℕ → ℕ → Plant → Scan
scan_in f size e n q = pick (eqb size 16892) (scan_of f e n q) (scan (unsized (check_of f)) q)
