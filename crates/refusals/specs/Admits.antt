-- What the instruction table allows of an operand, sentence by sentence. 3 is stated by it; that the check computes it: proofs/Admits.antt.
use Rattle.std.specs.Prelude.{ℕ, ◌+◌, ◌*◌, ◌<◌, ◌≤◌, ◌≡◌, ℤ, pos, neg_ℤ, ◌≤ℤ◌}
use Rattle.std.proofs.Math.IntN.{sub_ℕ}
use Rattle.ec20.specs.declared.Operand.{Operand}
use Rattle.ec20.specs.declared.Place.{Place}
use Rattle.ec20.specs.Devices.{Device, kind_constant, kind_x, kind_y, kind_m, kind_sm, kind_t, kind_d, kind_label}
use Rattle.ec20.specs.Roles.{unused, bit_read, bit_written, source, target, changed, quotient, timer, units, passes, label}

-- "Unused operands are six zeros."
pub record SixZeros (o : Operand) : Type 0 where
  pub kind : o.kind ≡ 0
  pub group : o.group ≡ 0
  pub value : o.value ≡ 0

-- "The whole extent must lie in the device's range": each of the n numbers from a on is one of the `count` from 0 on
abbrev pub Whole : ℕ → ℕ → ℕ → Type 0
Whole a n count = (i : ℕ) → i < n → a + i < count

-- one device of the kind k, of which there are `count`; "The group size is 0, except for a group"
pub record One (k count : ℕ) (o : Operand) : Type 0 where
  pub kind : o.kind ≡ k
  pub group : o.group ≡ 0
  pub inside : o.value < count

-- "a group of 4n bits of X, Y or M, where it is n": n = 1 to `most`
pub record Group (k count most : ℕ) (o : Operand) : Type 0 where
  pub kind : o.kind ≡ k
  pub from : 1 ≤ o.group
  pub to : o.group ≤ most
  pub inside : Whole o.value (4 * o.group) count

-- so many words of D from its number on
pub record Words (v : Device) (n : ℕ) (o : Operand) : Type 0 where
  pub kind : o.kind ≡ kind_d
  pub group : o.group ≡ 0
  pub inside : Whole o.value n v.words

-- "label (0 to 127)"
pub record Labelled (o : Operand) : Type 0 where
  pub kind : o.kind ≡ kind_label
  pub group : o.group ≡ 0
  pub to : o.value ≤ 127

-- "constant (two's complement)", 4 bytes: the number that u stands for
pub data StandsFor (u : ℕ) : ℤ → Type 0 where
  as_it_is : u < 2147483648 → StandsFor u (pos u)
  less_2_to_32 : 2147483648 ≤ u → StandsFor u (sub_ℕ u 4294967296)

-- a constant from a to b
pub record Constant (a b : ℤ) (o : Operand) : Type 0 where
  pub kind : o.kind ≡ kind_constant
  pub group : o.group ≡ 0
  pub number : ℤ
  pub stands : StandsFor o.value number
  pub from : a ≤ℤ number
  pub to : number ≤ℤ b

-- "bit: X, Y, M, SM, T"
pub data BitRead (v : Device) (o : Operand) : Type 0 where
  bit_X : One kind_x v.x o → BitRead v o
  bit_Y : One kind_y v.y o → BitRead v o
  bit_M : One kind_m v.m o → BitRead v o
  bit_SM : One kind_sm v.sm o → BitRead v o
  bit_T : One kind_t v.t o → BitRead v o

-- "bit: Y, M"
pub data BitWritten (v : Device) (o : Operand) : Type 0 where
  coil_Y : One kind_y v.y o → BitWritten v o
  coil_M : One kind_m v.m o → BitWritten v o

-- "A 16-bit source is a constant from -32768 to 32767, a group of n = 1 to 4, T (its value) or D."
pub data Source16 (v : Device) (o : Operand) : Type 0 where
  constant_16 : Constant (neg_ℤ (pos 32768)) (pos 32767) o → Source16 v o
  group_16_X : Group kind_x v.x 4 o → Source16 v o
  group_16_Y : Group kind_y v.y 4 o → Source16 v o
  group_16_M : Group kind_m v.m 4 o → Source16 v o
  value_of_T : One kind_t v.t o → Source16 v o
  one_word : Words v 1 o → Source16 v o

-- "A 32-bit source is any constant, a group of n = 1 to 8, or a D pair." Any: four bytes hold no other.
pub data Source32 (v : Device) (o : Operand) : Type 0 where
  constant_32 : Constant (neg_ℤ (pos 2147483648)) (pos 2147483647) o → Source32 v o
  group_32_X : Group kind_x v.x 8 o → Source32 v o
  group_32_Y : Group kind_y v.y 8 o → Source32 v o
  group_32_M : Group kind_m v.m 8 o → Source32 v o
  pair : Words v 2 o → Source32 v o

-- "Targets: groups of Y or M with the same n, or D": n = 1 to `most`, so many words
pub data TargetOf (v : Device) (most words : ℕ) (o : Operand) : Type 0 where
  onto_Y : Group kind_y v.y most o → TargetOf v most words o
  onto_M : Group kind_m v.m most o → TargetOf v most words o
  onto_D : Words v words o → TargetOf v most words o

-- What each place of the table admits.
pub data Admits (v : Device) (p : Place) (o : Operand) : Type 0 where
  at_unused : p ≡ unused → SixZeros o → Admits v p o
  at_bit_read : p ≡ bit_read → BitRead v o → Admits v p o
  at_bit_written : p ≡ bit_written → BitWritten v o → Admits v p o
  at_source_16 : p ≡ source 16 → Source16 v o → Admits v p o
  at_source_32 : p ≡ source 32 → Source32 v o → Admits v p o
  at_target_16 : p ≡ target 16 → TargetOf v 4 1 o → Admits v p o
  at_target_32 : p ≡ target 32 → TargetOf v 8 2 o → Admits v p o
  -- "target, also read"
  at_changed_16 : p ≡ changed 16 → TargetOf v 4 1 o → Admits v p o
  at_changed_32 : p ≡ changed 32 → TargetOf v 8 2 o → Admits v p o
  -- "for DIV and DDIV only D"; "DIV: quotient, then remainder, two words; DDIV: four words"
  at_quotient_16 : p ≡ quotient 16 → Words v 2 o → Admits v p o
  at_quotient_32 : p ≡ quotient 32 → Words v 4 o → Admits v p o
  -- "T, constant 1 to 32767"; "constant 0 to 32767"; "label"
  at_timer : p ≡ timer → One kind_t v.t o → Admits v p o
  at_units : p ≡ units → Constant (pos 1) (pos 32767) o → Admits v p o
  at_passes : p ≡ passes → Constant (pos 0) (pos 32767) o → Admits v p o
  at_label : p ≡ label → Labelled o → Admits v p o
