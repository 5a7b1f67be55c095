-- A record as an instruction, and as loops and jumps see it.
use mathlib.Core.Path.{◌≡◌, refl, subst}
use Prim.Native.Nat.{ℕ}
use Rattle.ec20.specs.declared.Instr.{Instr}
use Rattle.ec20.specs.declared.Instr.TheVariants.{Nop, Contact, Compare, Join, Branch, Coil, Timer, For, Next, Jump, Label, End, Word}
use Rattle.ec20.specs.declared.Control.{Control}
use Rattle.ec20.specs.declared.Control.TheVariants.{Plain, Opens, Closes, Jumps, Marks, Ends}
use Rattle.ec20.specs.Control.{control_of}

-- which instruction is seen so
abbrev Seen : Instr → Control → Type 0
Seen i Plain = Unit {0}
Seen i (Opens n) = i ≡ For n
Seen i Closes = i ≡ Next
Seen i (Jumps l) = i ≡ Jump l
Seen i (Marks l) = i ≡ Label l
Seen i Ends = i ≡ End

seen : (i : Instr) → Seen i (control_of i)
unfolding control_of
seen Nop = tt
seen (Contact n o) = tt
seen (Compare n a b) = tt
seen (Join n) = tt
seen (Branch n) = tt
seen (Coil n o) = tt
seen (Timer i c) = tt
seen (For c) = refl
seen Next = refl
seen (Jump l) = refl
seen (Label l) = refl
seen End = refl
seen (Word n a b t) = tt

-- FOR opens a loop, NEXT closes one, CJ jumps, LBL marks, END ends: they, and no others
pub is-for : {i : Instr} {n : ℕ} → control_of i ≡ Opens n → i ≡ For n
is-for {i} e = subst (Seen i) e (seen i)

pub is-next : {i : Instr} → control_of i ≡ Closes → i ≡ Next
is-next {i} e = subst (Seen i) e (seen i)

pub is-jump : {i : Instr} {l : ℕ} → control_of i ≡ Jumps l → i ≡ Jump l
is-jump {i} e = subst (Seen i) e (seen i)

pub is-label : {i : Instr} {l : ℕ} → control_of i ≡ Marks l → i ≡ Label l
is-label {i} e = subst (Seen i) e (seen i)

pub is-end : {i : Instr} → control_of i ≡ Ends → i ≡ End
is-end {i} e = subst (Seen i) e (seen i)
