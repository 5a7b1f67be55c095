-- How the code finds 6, 7 and W: a walk, which the code makes by two walkers that call each other, and a search that goes by turns. What they
-- find is what specs/Loops.antt and specs/Control.antt say (proofs/Walkers.antt): nothing here is needed to read the check.
use Rattle.std.specs.Prelude.{ℕ, zero, suc, ◌+◌, ◌-◌, ◌*◌, Bool, ltb, eqb, Ok}
use Rattle.ec20.specs.declared.Control.{Control}
use Rattle.ec20.specs.declared.Control.TheVariants.{Plain, Opens, Closes, Jumps, Marks, Ends}
use Rattle.ec20.specs.declared.Act.{Act}
use Rattle.ec20.specs.declared.Act.TheVariants.{Go, Enter, Leave, Finish, Refuse}
use Rattle.ec20.specs.Walked.{Walked}
use Rattle.ec20.specs.Walked.{Done, Bad}
use Rattle.ec20.specs.declared.Turn.{Turn}
use Rattle.ec20.specs.declared.Turn.TheVariants.{Hit, Stop, On}
use Rattle.ec20.specs.Found.{Found}
use Rattle.ec20.specs.Found.{At, Nowhere}
use Rattle.ec20.specs.Judged.{Judged}
use Rattle.ec20.specs.Judged.{Fine, Fault}
use Rattle.ec20.specs.Basics.{pick}
use Rattle.ec20.specs.Devices.{deepest}
use Rattle.ec20.specs.Code.{Program}
use Rattle.ec20.specs.Control.{Controls, controls_of}

-- What the last record asks, with d loops open: "last record not END or a FOR open there" is refused.
unfoldable pub last_act : Control → ℕ → Act
last_act Plain d = Refuse
last_act (Opens n) d = Refuse
last_act Closes d = Refuse
last_act (Jumps l) d = Refuse
last_act (Marks l) d = Refuse
last_act Ends d = pick (eqb d 0) Finish Refuse

-- What any other record asks: "NEXT with no FOR open, ninth open FOR, END not last" are refused.
unfoldable pub mid_act : Control → ℕ → Act
mid_act Plain d = Go 1
mid_act (Opens n) d = pick (ltb d deepest) (Enter n) Refuse
mid_act Closes d = pick (ltb 0 d) Leave Refuse
mid_act (Jumps l) d = Go 1
mid_act (Marks l) d = Go 1
mid_act Ends d = Refuse

unfoldable pub act_of : Controls → ℕ → ℕ → ℕ → Act
act_of code count k d = pick (eqb (k + 1) count) (last_act (code k) d) (mid_act (code k) d)

-- more steps ahead of what was walked
unfoldable pub plus : ℕ → Walked → Walked
plus s (Ok a) = Done a.next (s + a.steps)
plus s (Bad k) = Bad k

-- What comes after a loop of n passes whose body was walked up to its NEXT: "a loop counting 1 + n x (W of its body + 1)".
unfoldable pub follow : ℕ → Walked → (ℕ → Walked) → Walked
follow n (Ok a) after = plus (1 + n * (a.steps + 1)) (after (a.next + 1))
follow n (Bad k) after = Bad k

-- One record of a sequence, by what it asks; walk m j is the sequence from record m on, with j loops open.
unfoldable pub by_act : Act → ℕ → ℕ → (ℕ → ℕ → Walked) → Walked
by_act (Go s) k d walk = plus s (walk (k + 1) d)
by_act (Enter n) k d walk = follow n (walk (k + 1) (d + 1)) (λ m. walk m d)
by_act Leave k d walk = Done k 0
by_act Finish k d walk = Done (k + 1) 1
by_act Refuse k d walk = Bad k

-- The sequence from record k on, with d loops open: it ends before the NEXT of its loop, or after END. "W of a body is the sum over its
-- records." n records at most: those that are left are enough.
unfoldable pub sequence_of : Controls → ℕ → ℕ → ℕ → ℕ → Walked
sequence_of code count zero k d = Bad k
sequence_of code count (suc n) k d = by_act (act_of code count k d) k d (λ m j. sequence_of code count n m j)

-- the whole program
abbrev pub walk_of : Controls → ℕ → Walked
walk_of code count = sequence_of code count count 0 0

-- 6: the first record that breaks the structure
abbrev pub unsound : Walked → Judged
unsound (Ok a) = Fine
unsound (Bad k) = Fault 6 k

-- the steps walked, which are W
abbrev pub steps_walked : Walked → ℕ
steps_walked (Ok a) = a.steps
steps_walked (Bad k) = 0

-- what the walkers say of a program
abbrev pub walked : Program → Walked
walked p = walk_of (controls_of p) p.count

-- A search goes from record to record in one loop body: it passes over the loops inside it, and the body's NEXT ends it. Of a record that is
-- not the one looked for, d deep in loops inside the body:
unfoldable pub shift_of : Control → ℕ → Turn
shift_of Plain d = On d
shift_of (Opens n) d = On (d + 1)
shift_of Closes d = pick (eqb d 0) Stop (On (d - 1))
shift_of (Jumps l) d = On d
shift_of (Marks l) d = On d
shift_of Ends d = On d

-- what is looked for counts only directly in the body
unfoldable pub turn_of : Bool → Control → ℕ → Turn
turn_of wanted i d = pick (eqb d 0) (pick wanted Hit (shift_of i d)) (shift_of i d)

unfoldable pub by_turn : Turn → ℕ → (ℕ → Found) → Found
by_turn Hit k more = At k
by_turn Stop k more = Nowhere
by_turn (On d) k more = more d
