-- A file is salvaged by its first 2,001 records: what stands behind them is part of the rest and nothing else. So the command reads the start of a file and
-- counts what follows.
use Rattle.std.specs.Prelude.{ℕ, ◌+◌, ◌≤◌, List, ◌++◌, ◌≡◌, length, Err, Ok}
use Rattle.ec20.specs.Devices.{Device}
use Rattle.torn.specs.Salvage.{saved, salvage_for}
use Rattle.torn.specs.Salvaged.{Salvaged}
use Rattle.torn.specs.Salvaged.{Refused, Done}

-- the same answer with so many bytes more in the rest
abbrev pub with_more : ℕ → Salvaged → Salvaged
with_more n (Err r) = Refused r.number r.at
with_more n (Ok a) = Done a.kept a.added (a.rest + n)

-- of a file that begins with t, 2,001 records or more, and goes on with u
abbrev pub Beyond : Device → Type 0
Beyond v =
    (t u b : List ℕ) → 40020 ≤ length t
    → salvage_for v (t ++ u) b ≡ saved (with_more (length u) (salvage_for v t b).answer) (salvage_for v t b).out
