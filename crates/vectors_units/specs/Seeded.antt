-- What stands in a report before a call.
use Rattle.std.specs.Prelude.{ℕ, ◌+◌, ◌*◌, ◌%◌, ◌^◌, List}
use Rattle.ec20.specs.Basics.{list}
use Rattle.units.specs.Report.{pair}

-- "Pair k of the report, from 0, is (seed + 2k, seed + 2k + 1) before the call, both modulo 2^32."
abbrev pub pair_by : ℕ → ℕ → List ℕ
pair_by seed i = pair ((seed + 2 * i) % 2 ^ 32) ((seed + 2 * i + 1) % 2 ^ 32)

-- a report of n pairs
unfoldable pub seeded : ℕ → ℕ → List (List ℕ)
seeded seed n = list n (λ i. pair_by seed i)
