-- "The whole extent must lie in the device's range." The definitions read what lies outside a table as 0, and a store there is lost. What holds where a
-- record of an accepted program is due, so that neither is used: all that it reads or writes lies in its table, by the table's length.
use Rattle.std.specs.Prelude.{ℕ, ◌+◌, ◌*◌, ◌/◌, ◌≤◌, ◌<◌, Bool, true, false, ◌≡◌, length}
use Rattle.ec20.specs.declared.Instr.{Instr}
use Rattle.ec20.specs.declared.Instr.TheVariants.{Nop, Contact, Compare, Join, Branch, Coil, Timer, For, Next, Jump, Label, End, Word}
use Rattle.ec20.specs.declared.Operand.{Operand}
use Rattle.ec20.specs.Code.{no_operand}
use Rattle.ec20.specs.Devices.{Device, kind_constant, kind_x, kind_y, kind_m, kind_t, kind_d}
use Rattle.ec20.specs.Forms.{form_is, form_three}
use Rattle.ec20.specs.Memory.{Memory, bits_of}
use Rattle.ec20.specs.Mnemonics.{DIV, DDIV}
use Rattle.ec20.specs.Step.{width_of}
use Rattle.ec20.specs.Table.{row_of}
use Rattle.ec20.specs.Words.{is}
use Rattle.moving.specs.Rename.{words_of, written_by}

-- A device whose bits fill their bytes, so that a table of them, "packed eight to a byte", has room for each; and which has SM180 to SM182. The EC20
-- is one.
pub record Filled (v : Device) : Type 0 where
  pub x : 8 * (v.x / 8) ≡ v.x
  pub y : 8 * (v.y / 8) ≡ v.y
  pub m : 8 * (v.m / 8) ≡ v.m
  pub sm : 8 * (v.sm / 8) ≡ v.sm
  pub t : 8 * (v.t / 8) ≡ v.t
  pub flags : 182 < v.sm

-- n bits from the operand's number on. Its kind is one from a to b, in the order "2 X, 3 Y, 4 M, 5 SM, 6 T", and they lie in the table of that kind
pub record Bits (a b n : ℕ) (c : Memory) (o : Operand) : Type 0 where
  pub from : a ≤ o.kind
  pub to : o.kind ≤ b
  pub inside : o.value + n ≤ 8 * length (bits_of o.kind c)

-- "a group of 4n bits", of the kinds from a to b: n is 1 or more, and it has no more bits than the number, which has w
pub record Group (a b w : ℕ) (c : Memory) (o : Operand) : Type 0 where
  pub some : 1 ≤ o.group
  pub fits : 4 * o.group ≤ w
  pub bits : Bits a b (4 * o.group) c o

-- n words of D from the operand's number on
pub record Words (n : ℕ) (c : Memory) (o : Operand) : Type 0 where
  pub kind : o.kind ≡ kind_d
  pub inside : o.value + n ≤ length c.d

-- timer i: its contact and its value
pub record OneTimer (c : Memory) (i : ℕ) : Type 0 where
  pub contact : i < 8 * length c.t
  pub value : i < length c.tv

-- "A 16-bit source is a constant .., a group of n = 1 to 4, T (its value) or D. A 32-bit source is any constant, a group of n = 1 to 8, or a D pair.":
-- of w bits. A constant names nothing; a group is "of X, Y or M".
pub data Source (w : ℕ) (c : Memory) (o : Operand) : Type 0 where
  constant : o.kind ≡ kind_constant → Source w c o
  from_group : Group kind_x kind_m w c o → Source w c o
  from_timer : w ≡ 16 → o.kind ≡ kind_t → o.value < length c.tv → Source w c o
  from_words : Words (words_of w) c o → Source w c o

-- "Targets: groups of Y or M with the same n, or D; for DIV and DDIV only D", and these write "quotient, then remainder": of the word instruction n
pub data Target (n : ℕ) (c : Memory) (o : Operand) : Type 0 where
  to_group : is n DIV DDIV ≡ false → Group kind_y kind_m (width_of n) c o → Target n c o
  to_words : Words (written_by n) c o → Target n c o

-- the table has two sources for n
abbrev pub two_sources : ℕ → Bool
two_sources n = form_is (row_of n).form form_three

-- the word instruction n, of the sources a and b and the target t. Where the table has one source, b is none and reads nothing: "Unused operands are
-- six zeros." The flags are SM180 to SM182.
pub record OneWord (n : ℕ) (c : Memory) (a b t : Operand) : Type 0 where
  pub first : Source (width_of n) c a
  pub second : two_sources n ≡ true → Source (width_of n) c b
  pub no_second : two_sources n ≡ false → b ≡ no_operand
  pub target : Target n c t
  pub flags : 182 < 8 * length c.sm

-- What the record due names lies in the memory c. "bit: X, Y, M, SM, T" is read, "bit: Y, M" is written.
abbrev pub Named : Memory → Instr → Type 0
Named c Nop = Unit {0}
Named c (Contact n o) = Bits kind_x kind_t 1 c o
Named c (Compare n a b) = Source 16 c a × Source 16 c b
Named c (Join n) = Unit {0}
Named c (Branch n) = Unit {0}
Named c (Coil n o) = Bits kind_y kind_m 1 c o
Named c (Timer i k) = OneTimer c i
Named c (For k) = Unit {0}
Named c Next = Unit {0}
Named c (Jump l) = Unit {0}
Named c (Label l) = Unit {0}
Named c End = Unit {0}
Named c (Word n a b t) = OneWord n c a b t
