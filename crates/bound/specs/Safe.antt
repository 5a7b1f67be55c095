-- What holds where a record of an accepted program is due, so that what is done there has a meaning in the scope.
use Rattle.std.specs.Prelude.{ℕ, zero, suc, ◌+◌, ◌-◌, ◌≤◌, ◌<◌, true, List, [], ◌∷◌, ◌≡◌, length, get_or}
use Rattle.ec20.specs.declared.Control.{Control}
use Rattle.ec20.specs.declared.Control.TheVariants.{Plain, Opens, Closes, Jumps, Marks, Ends}
use Rattle.ec20.specs.Found.{At}
use Rattle.ec20.specs.Devices.{deepest}
use Rattle.ec20.specs.Code.{Program}
use Rattle.ec20.specs.Control.{Controls, control_of, controls_of, marks, next_of_for}
use Rattle.ec20.specs.Flow.{not_yet, reached}
use Rattle.ec20.specs.Labels.{opens_of, Stands}
use Rattle.ec20.specs.Step.{World}

-- a FOR at record k, with d loops open: there is room for one more, and its NEXT is found, later and not the last record
pub record Enters (code : Controls) (count k d : ℕ) : Type 0 where
  pub room : d < deepest
  pub next : ℕ
  pub found : next_of_for code count k ≡ At next
  pub closing : code next ≡ Closes
  pub later : k < next
  pub inside : next + 1 < count

-- a CJ at record k to the label l: the record that it goes to is an LBL of l that stands where it must
pub record Lands (code : Controls) (count k l : ℕ) : Type 0 where
  pub to : ℕ
  pub stands : Stands code count k l to
  pub marked : marks l (code to) ≡ true
  pub inside : to < count

-- by what the record due is: at a NEXT some loop is open, at END none
abbrev pub Due : Controls → ℕ → ℕ → ℕ → Control → Type 0
Due code count k d Plain = Unit {0}
Due code count k d (Opens n) = Enters code count k d
Due code count k d Closes = 0 < d
Due code count k d (Jumps l) = Lands code count k l
Due code count k d (Marks l) = Unit {0}
Due code count k d Ends = d ≡ 0

-- the FOR of each open loop, the innermost first: the record before the one that its NEXT goes back to
unfoldable pub fors_of : ℕ → List ℕ → List ℕ
fors_of zero back = []
fors_of (suc d) back = (get_or back d 0 - 1) ∷ fors_of d back

-- The machine runs, the record due is one of the program's, at most 8 loops are open, each table of loops has 8 entries, and the loops
-- open are those in which the record due stands.
pub record Safe (p : Program) (w : World) : Type 0 where
  pub running : w.st.ended ≡ not_yet
  pub inside : w.st.pc < p.count
  pub room : w.st.depth ≤ deepest
  pub passes : length w.loops.left ≡ deepest
  pub places : length w.loops.back ≡ deepest
  pub loops : opens_of (controls_of p) w.st.pc ≡ fors_of w.st.depth w.loops.back
  pub due : Due (controls_of p) p.count w.st.pc w.st.depth (control_of (p.code w.st.pc))

-- END was executed: it is the last record, and no loop is open
pub record AtEnd (p : Program) (w : World) : Type 0 where
  pub ended : w.st.ended ≡ reached
  pub last : w.st.pc + 1 ≡ p.count
  pub closed : w.st.depth ≡ 0
