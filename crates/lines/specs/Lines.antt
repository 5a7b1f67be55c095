-- The mover's lines of the table of refusals, 10 to 13, word by word.
use Rattle.std.specs.Prelude.{ℕ, ◌+◌, ◌<◌, ◌≤◌, true, ◌≡◌}
use Rattle.ec20.specs.Devices.{Device}
use Rattle.ec20.specs.Move.{Block, Pool}
use Rattle.ec20.specs.Operands.{in_d, start_of, extent_of}
use Rattle.ec20.specs.declared.Operand.{Operand}
use Rattle.ec20.specs.declared.Place.{Place}
use Rattle.ec20.specs.declared.Rec.{Rec}
use Rattle.refusals.specs.Records.{OperandAt, Work}

-- 10: "block empty or not inside D"
pub data Line10 (v : Device) (b : Block) : Type 0 where
  empty : b.length ≡ 0 → Line10 v b
  not_inside : v.words < b.start + b.length → Line10 v b

-- 11: "pool start above its end, or end above 8000"
pub data Line11 (v : Device) (l : Pool) : Type 0 where
  above : l.end < l.start → Line11 v l
  past : v.words < l.end → Line11 v l

-- word i is in the block
pub record In (b : Block) (i : ℕ) : Type 0 where
  pub from : b.start ≤ i
  pub to : i < b.start + b.length

-- 12: "block meets WORK": they have a word in common
pub data Line12 (v : Device) (b : Block) : Type 0 where
  meets : (i : ℕ) → In b i → Work v i → Line12 v b

-- word i is one of the operand's extent, at its place
pub record Extent (p : Place) (o : Operand) (i : ℕ) : Type 0 where
  pub in_D : in_d o ≡ true
  pub from : start_of o ≤ i
  pub to : i < start_of o + extent_of p o

-- 13: "an operand's extent is partly in the block": a word of it is, and a word of it is not
pub data Line13 (b : Block) (r : Rec) : Type 0 where
  split : {p : Place} {o : Operand} (i j : ℕ) → OperandAt r p o → Extent p o i → In b i → Extent p o j → (In b j → ⊥) → Line13 b r
