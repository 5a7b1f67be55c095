-- What a step needs: the file's records, where they go, looked up for this run, and a state in its range.
use Rattle.std.specs.Prelude.{ℕ, ◌+◌, ◌*◌, ◌<◌, ◌≤◌, ◌^◌, List, ◌⊎◌, ◌≡◌, length}
use Rattle.ec20.specs.Code.{program_in}
use Rattle.ec20.specs.Control.{controls_of}
use Rattle.ec20.specs.File.{records_from, byte_at}
use Rattle.ec20.specs.Timers.{Few}
use Rattle.ec20.specs.declared.Machine.{Machine}
use Rattle.ec20.specs.declared.Units.{Units}
use Rattle.jumps.specs.Prepared.{Prepared}
use Rattle.records.specs.Ranges.{Held}

-- the numbers of the `count` records from the byte `first` on are in the instruction table
abbrev pub Known : List ℕ → ℕ → ℕ → Type 0
Known f first count = (k : ℕ) → k < count → byte_at f (first + 20 * k) < 56

-- of a run: `count` records from the byte `first` on, whose numbers the instruction table has, where they go, the units that its timers are given
pub record Running (f : List ℕ) (first count : ℕ) (goes : List ℕ) (u : Units) : Type 0 where
  pub held : Held (length f) first count
  pub prepared : Prepared (controls_of (program_in (records_from f first count))) count goes
  pub known : Known f first count
  pub few : Few u

-- of the record due: it is one of the program's, it stands at byte i, and its number is n, which the table has
pub record Due (f : List ℕ) (first count n i : ℕ) (s : Machine) : Type 0 where
  pub here : s.pc < count
  pub at : i ≡ first + 20 * s.pc
  pub number : n ≡ byte_at f i
  pub known : n < 56
  pub room : i + 20 ≤ length f
  pub near : i < 50000
  pub depth : s.depth ≤ 8
  pub pc : s.pc < 2 ^ 63

-- numbers that are none of 0 to 14 and none of 18 to 23
pub record Left (n : ℕ) : Type 0 where
  pub above : 15 ≤ n
  pub apart : (n < 18) ⊎ (24 ≤ n)
