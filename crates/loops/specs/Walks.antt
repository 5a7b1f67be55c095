-- What the two walkers of the structure checker tell each other.
use Rattle.std.specs.Prelude.{ℕ, ◌+◌, ◌-◌, ◌*◌, ◌≤◌, ◌≡◌, List, Ok}
use Rattle.ec20.specs.Walked.{Walked}
use Rattle.ec20.specs.Walked.{Done, Bad}
use Rattle.ec20.specs.Code.{program_in}
use Rattle.ec20.specs.Control.{Controls, controls_of}
use Rattle.ec20.specs.File.{records_from}
use Rattle.ec20.specs.Walkers.{sequence_of}
use Rattle.loops.specs.Capped.{cap, capped}

-- the controls of the program of `count` records from the byte `first` on
abbrev pub controls_in : List ℕ → ℕ → ℕ → Controls
controls_in f first count = controls_of (program_in (records_from f first count))

-- a loop of n passes whose body was walked up to its NEXT: "a loop counting 1 + n x (W of its body + 1)"
unfoldable pub loop_of : ℕ → Walked → Walked
loop_of n (Ok a) = Done (a.next + 1) (1 + n * (a.steps + 1))
loop_of n (Bad k) = Bad k

-- r is what the sequence from record k on comes to, with d loops open; as many records as are left are enough, and more change nothing
unfoldable pub IsSequence : Controls → ℕ → ℕ → ℕ → Walked → Type 0
IsSequence code count k d r = (n : ℕ) → count - k ≤ n → r ≡ capped (sequence_of code count n k d)

-- r is what the loop of so many passes comes to whose body begins at record k, with d loops open, it among them
unfoldable pub IsLoop : Controls → ℕ → ℕ → ℕ → ℕ → Walked → Type 0
IsLoop code count k d passes r =
    (n : ℕ) → count - k ≤ n → r ≡ capped (loop_of passes (sequence_of code count n k d))

-- small enough that one more loop around it does not overflow
unfoldable pub Small : Walked → Type 0
Small (Ok a) = (a.next ≤ 2000) × (a.steps ≤ cap)
Small (Bad k) = Unit {0}
