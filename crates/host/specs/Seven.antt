-- The seven numbers that a host is told of a scan.
use Rattle.std.specs.Prelude.{ℕ, List, [], ◌∷◌}
use Rattle.ec20.specs.Answers.{ToldScan, told_by_scan}
use Rattle.ec20.specs.Scanned.{Scanned}

abbrev pub listed : ToldScan → List ℕ
listed t = t.number ∷ t.at ∷ t.kind ∷ t.steps ∷ t.stop ∷ t.error ∷ t.error_at ∷ []

-- refusal and record; ended (1) or watchdog (2); steps, record stopped at, first error and its record
unfoldable pub seven_of : Scanned → List ℕ
seven_of s = listed (told_by_scan s)
