-- A program as loops and jumps see it: how many loops are open, where the NEXT of a FOR is, and where a label is.
use Rattle.std.specs.Prelude.{ℕ, zero, suc, ◌+◌, ◌-◌, Bool, true, false, ◌&&◌, eqb}
use Rattle.ec20.specs.declared.Instr.{Instr}
use Rattle.ec20.specs.declared.Instr.TheVariants.{Nop, Contact, Compare, Join, Branch, Coil, Timer, For, Next, Jump, Label, End, Word}
use Rattle.ec20.specs.declared.Control.{Control}
use Rattle.ec20.specs.declared.Control.TheVariants.{Plain, Opens, Closes, Jumps, Marks, Ends}
use Rattle.ec20.specs.Found.{Found}
use Rattle.ec20.specs.Found.{At, Nowhere}
use Rattle.ec20.specs.Basics.{pick, first_at}
use Rattle.ec20.specs.Code.{Program}

-- what each record is to loops and jumps
abbrev pub Controls : Type 0
Controls = ℕ → Control

-- FOR opens a loop of so many passes, NEXT closes one, CJ jumps to a label, LBL marks it, END ends
unfoldable pub control_of : Instr → Control
control_of Nop = Plain
control_of (Contact n o) = Plain
control_of (Compare n a b) = Plain
control_of (Join n) = Plain
control_of (Branch n) = Plain
control_of (Coil n o) = Plain
control_of (Timer i c) = Plain
control_of (For c) = Opens c
control_of Next = Closes
control_of (Jump l) = Jumps l
control_of (Label l) = Marks l
control_of End = Ends
control_of (Word n a b t) = Plain

abbrev pub controls_of : Program → Controls
controls_of p = λ k. control_of (p.code k)

-- how many loops are open after a record, of d before it: FOR one more, NEXT one less
unfoldable pub open_after : Control → ℕ → ℕ
open_after Plain d = d
open_after (Opens n) d = d + 1
open_after Closes d = d - 1
open_after (Jumps l) d = d
open_after (Marks l) d = d
open_after Ends d = d

-- closes a loop
unfoldable pub closes : Control → Bool
closes Plain = false
closes (Opens n) = false
closes Closes = true
closes (Jumps l) = false
closes (Marks l) = false
closes Ends = false

-- marks the label l
unfoldable pub marks : ℕ → Control → Bool
marks l Plain = false
marks l (Opens n) = false
marks l Closes = false
marks l (Jumps m) = false
marks l (Marks m) = eqb m l
marks l Ends = false

-- A search in one loop body, of the n records from k on, where k is d deep in loops inside that body: the first wanted record that stands directly
-- in the body. The body's own NEXT ends the search.
unfoldable pub search_body : Controls → (Control → Bool) → ℕ → ℕ → ℕ → Found
search_body code want d k zero = Nowhere
search_body code want d k (suc n) =
    let later = search_body code want (open_after (code k) d) (k + 1) n in
    pick (eqb d 0 && want (code k)) (At k)
    (pick (eqb d 0 && closes (code k)) Nowhere
    later)

-- the same in a program of so many records, from record k on
abbrev pub found_in_body : Controls → ℕ → (Control → Bool) → ℕ → ℕ → Found
found_in_body code count want d k = search_body code want d k (count - k)

-- the NEXT of the FOR at record k
abbrev pub next_of_for : Controls → ℕ → ℕ → Found
next_of_for code count k = found_in_body code count closes 0 (k + 1)

-- a label's place: "its first LBL"
abbrev pub first_label : Controls → ℕ → ℕ → Found
first_label code count l = first_at (λ k. marks l (code k)) 0 count

-- the record found; past the program if there is none
abbrev pub or_past : ℕ → Found → ℕ
or_past count (At t) = t
or_past count Nowhere = count
