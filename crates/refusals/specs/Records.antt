-- 2, 3 and 4: what refuses a record by itself.
use Rattle.std.specs.Prelude.{ℕ, ◌+◌, ◌<◌, ◌≤◌, true, false, ◌≡◌}
use Rattle.ec20.specs.declared.Operand.{Operand}
use Rattle.ec20.specs.declared.Place.{Place}
use Rattle.ec20.specs.declared.Rec.{Rec}
use Rattle.ec20.specs.Devices.{Device}
use Rattle.ec20.specs.Operands.{in_d, start_of, extent_of}
use Rattle.ec20.specs.Table.{row_of}
use Rattle.ec20.specs.Roles.{is_written}
use Rattle.refusals.specs.Admits.{Admits}

-- 2: "unknown instruction or spare byte not 0"
pub data Line2 (r : Rec) : Type 0 where
  unknown : (row_of r.number).known ≡ false → Line2 r
  spare : (r.spare ≡ 0 → ⊥) → Line2 r

-- the operands of a record, each at its place in the row of the record's number
pub data OperandAt (r : Rec) : Place → Operand → Type 0 where
  first : OperandAt r (row_of r.number).first r.first
  second : OperandAt r (row_of r.number).second r.second
  third : OperandAt r (row_of r.number).third r.third

-- 3: "operand not as the table allows, or unused one not zero": of an unused one it allows six zeros
pub data Line3 (v : Device) (r : Rec) : Type 0 where
  wrong : {p : Place} {o : Operand} → OperandAt r p o → (Admits v p o → ⊥) → Line3 v r

-- word i is one of a target's extent: the place is written, and i is one of the operand's words in D
pub record Target (p : Place) (o : Operand) (i : ℕ) : Type 0 where
  pub written : is_written p ≡ true
  pub in_D : in_d o ≡ true
  pub from : start_of o ≤ i
  pub to : i < start_of o + extent_of p o

-- word i is in WORK: "WORK is D7900 to D7999"
pub record Work (v : Device) (i : ℕ) : Type 0 where
  pub from : v.work ≤ i
  pub to : i < v.words

-- 4: "target extent meets WORK": they have a word in common
pub data Line4 (v : Device) (r : Rec) : Type 0 where
  meets : {p : Place} {o : Operand} (i : ℕ) → OperandAt r p o → Target p o i → Work v i → Line4 v r

-- a record "that breaks 2, 3 or 4"
pub data Line2to4 (v : Device) (r : Rec) : Type 0 where
  by_2 : Line2 r → Line2to4 v r
  by_3 : Line3 v r → Line2to4 v r
  by_4 : Line4 v r → Line2to4 v r
