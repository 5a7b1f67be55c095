-- The machine as loops and jumps see it: the record due and the loops that are open. Whether a CJ has flow is given from outside. Where
-- the scope gives no meaning (no NEXT, no label, a ninth loop, a record past the last) it breaks: an accepted program never comes there.
use Rattle.std.specs.Prelude.{ℕ, zero, suc, ◌+◌, ◌-◌, Bool, List, [], ◌∷◌, length, get_or, eqb, ltb}
use Rattle.ec20.specs.declared.Control.{Control}
use Rattle.ec20.specs.declared.Control.TheVariants.{Plain, Opens, Closes, Jumps, Marks, Ends}
use Rattle.ec20.specs.Found.{Found}
use Rattle.ec20.specs.Found.{At, Nowhere}
use Rattle.ec20.specs.Basics.{pick}
use Rattle.ec20.specs.Devices.{deepest}
use Rattle.ec20.specs.Control.{Controls, next_of_for, first_label}
use Rattle.ec20.specs.Step.{World}

-- an open loop: the passes left, the one under way counted, and the record after its FOR
pub record Frame : Type 0 where
  pub left : ℕ
  pub back : ℕ

abbrev pub frame : ℕ → ℕ → Frame
frame x h = record { left = x; back = h }

-- the record due; the open loops, the innermost first; mark: END is not reached yet (0) or is reached (1), as the machine has it, or it broke (2)
pub record State : Type 0 where
  pub pc : ℕ
  pub loops : List Frame
  pub mark : ℕ

abbrev pub state : ℕ → List Frame → ℕ → State
state p l m = record { pc = p; loops = l; mark = m }

-- a scan "starts at record 0"
abbrev pub start : State
start = state 0 [] 0

abbrev pub goto : State → ℕ → State
goto s p = state p s.loops s.mark

abbrev pub broken : State → State
broken s = state s.pc s.loops 2

-- to the record found
unfoldable pub to_found : Found → State → State
to_found (At t) s = goto s t
to_found Nowhere s = broken s

-- to the record after the one found
unfoldable pub past_found : Found → State → State
past_found (At b) s = goto s (b + 1)
past_found Nowhere s = broken s

-- "FOR 0 goes to the record after its NEXT"; else one more loop is open, of 8 at most
unfoldable pub open_of : Controls → ℕ → ℕ → State → State
open_of code count n s =
    pick (eqb n 0) (past_found (next_of_for code count s.pc) s)
    (pick (ltb (length s.loops) deepest) (state (s.pc + 1) (frame n (s.pc + 1) ∷ s.loops) s.mark)
    (broken s))

-- NEXT: another pass of the innermost loop, from the record after its FOR, or the record after NEXT with one loop less
unfoldable pub pass_of : List Frame → State → State
pass_of [] s = broken s
pass_of (f ∷ outer) s =
    pick (ltb 1 f.left) (state f.back (frame (f.left - 1) f.back ∷ outer) s.mark)
    (state (s.pc + 1) outer s.mark)

-- one record, with flow or not: "CJ goes, with flow, to its label", and a scan "ends at END"
unfoldable pub done_of : Controls → ℕ → Bool → State → Control → State
done_of code count flow s Plain = goto s (s.pc + 1)
done_of code count flow s (Opens n) = open_of code count n s
done_of code count flow s Closes = pass_of s.loops s
done_of code count flow s (Jumps l) = pick flow (to_found (first_label code count l) s) (goto s (s.pc + 1))
done_of code count flow s (Marks l) = goto s (s.pc + 1)
done_of code count flow s Ends = state s.pc s.loops 1

-- the record due is executed
unfoldable pub move_on : Controls → ℕ → Bool → State → State
move_on code count flow s = pick (ltb s.pc count) (done_of code count flow s (code s.pc)) (broken s)

-- The machine of the scope, seen so: of its tables of loops the first `depth` entries count, outermost first.
unfoldable pub loops_of : ℕ → List ℕ → List ℕ → List Frame
loops_of zero left back = []
loops_of (suc d) left back = frame (get_or left d 0) (get_or back d 0) ∷ loops_of d left back

abbrev pub control : World → State
control w = state w.st.pc (loops_of w.st.depth w.loops.left w.loops.back) w.st.ended
