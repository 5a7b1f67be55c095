-- The definitions are total: they say something of every record in every state, also where document 01 gives no meaning (an action where flow is
-- absent, a ninth entry on a stack, a FOR with no NEXT, a word past the table). What holds where a record of an accepted program is due, so that none
-- of that is used. Loops, jumps and the record due are Safe of the crate bound; operands are Named; flow and the two stacks of bits are here.
use Rattle.std.specs.Prelude.{ℕ, ◌≤◌, ◌<◌, ◌^◌, true, false, ◌≡◌, eqb}
use Rattle.ec20.specs.declared.Instr.{Instr}
use Rattle.ec20.specs.declared.Instr.TheVariants.{Nop, Contact, Compare, Join, Branch, Coil, Timer, For, Next, Jump, Label, End, Word}
use Rattle.ec20.specs.declared.Machine.{Machine}
use Rattle.ec20.specs.declared.Rung.{Rung}
use Rattle.ec20.specs.Code.{Program}
use Rattle.ec20.specs.Devices.{Device, stack_holds}
use Rattle.ec20.specs.Flow.{absent, stack_room, starts_now}
use Rattle.ec20.specs.Mnemonics.{MPS}
use Rattle.ec20.specs.Rung.{is_load}
use Rattle.ec20.specs.Step.{World}
use Rattle.bound.specs.Safe.{Safe}
use Rattle.refusals.specs.Rung.{rung_at}
use Rattle.demands.specs.Named.{Filled, Named}

-- flow is not absent
abbrev pub Present : Machine → Type 0
Present s = s.flow ≡ absent → ⊥

pub record Empty (s : Machine) : Type 0 where
  pub blocks : s.blocks ≡ 0
  pub branches : s.branches ≡ 0

-- a stack of n entries, 8 at most, is a byte of n bits: none was lost, and none stands above them
pub record Holds (n byte : ℕ) : Type 0 where
  pub few : n ≤ stack_holds
  pub bits : byte < 2 ^ n

-- an LDType starts a rung with both stacks empty; or it pushes, and the block stack has room, so that nothing falls out
pub record Loads (s : Machine) : Type 0 where
  pub starting : starts_now s ≡ true → Empty s
  pub pushing : starts_now s ≡ false → s.blocks < stack_room

-- an action has flow, and the block stack is empty
pub record Acts (s : Machine) : Type 0 where
  pub flow : Present s
  pub blocks : s.blocks ≡ 0

-- What the record due needs: g has the number of entries of each stack before it, in record order.
abbrev pub Needs : Rung → Machine → Instr → Type 0
Needs g s Nop = Unit {0}
Needs g s (Contact n o) = (is_load n ≡ true → Loads s) × (is_load n ≡ false → Present s)
Needs g s (Compare n a b) = Loads s
-- ANB and ORB pop an entry that is there
Needs g s (Join n) = Present s × (0 < g.blocks)
-- MPS has room, MRD and MPP an entry
Needs g s (Branch n) = Acts s × (eqb n MPS ≡ true → s.branches < stack_room) × (eqb n MPS ≡ false → 0 < g.branches)
Needs g s (Coil n o) = Acts s
Needs g s (Timer i c) = Acts s
Needs g s (For c) = Empty s
Needs g s Next = Empty s
Needs g s (Jump l) = Present s × Empty s
Needs g s (Label l) = Empty s
Needs g s End = Empty s
Needs g s (Word n a b t) = Acts s

-- flow and stacks where a record is due
pub record Powered (p : Program) (s : Machine) : Type 0 where
  pub blocks : Holds (rung_at p s.pc).blocks s.blocks
  pub branches : Holds (rung_at p s.pc).branches s.branches
  pub needs : Needs (rung_at p s.pc) s (p.code s.pc)

-- what is due has its meaning, on a device v: each FOR finds its NEXT and each CJ its label, no ninth loop is opened and none closed that is not open,
-- the record due lies in the program; flow and stacks are as it needs them; and, if the device's bits fill their bytes, all that it names lies in its
-- table
pub record Sound (v : Device) (p : Program) (w : World) : Type 0 where
  pub safe : Safe p w
  pub powered : Powered p w.st
  pub named : Filled v → Named w.mem (p.code w.st.pc)
