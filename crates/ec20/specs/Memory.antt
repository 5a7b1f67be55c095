-- The lent memory, and what an operand reads and writes of it. "Any content is valid."
use Rattle.std.specs.Prelude.{ℕ, ◌+◌, ◌/◌, ◌%◌, Bool, ◌&&◌, List, length, eqb, ℤ}
use Rattle.ec20.specs.declared.Operand.{Operand}
use Rattle.ec20.specs.Basics.{pick}
use Rattle.ec20.specs.Devices.{Device, kind_constant, kind_x, kind_y, kind_m, kind_sm, kind_t, kind_d}
use Rattle.ec20.specs.Numbers.{bits_in, half, signed}
use Rattle.ec20.specs.Registers.{word_at, number_at, with_number}
use Rattle.ec20.specs.Bits.{bit_at, with_bit, group_at, with_group}
use Rattle.ec20.specs.Operands.{kind_is}

-- bits of X, Y, M, SM and T contacts, D words, T values
pub record Memory : Type 0 where
  pub x : List ℕ
  pub y : List ℕ
  pub m : List ℕ
  pub sm : List ℕ
  pub t : List ℕ
  pub d : List ℤ
  pub tv : List ℤ

abbrev pub memory : List ℕ → List ℕ → List ℕ → List ℕ → List ℕ → List ℤ → List ℤ → Memory
memory x y m sm t d tv = record { x = x; y = y; m = m; sm = sm; t = t; d = d; tv = tv }

-- "X 32 bytes, Y 32, M 250, SM 32, T contacts 32), 8,000 signed 16-bit D words and 256 signed 16-bit T values": of each kind as many as the
-- device has, bits packed eight to a byte
unfoldable pub sized : Device → Memory → Bool
sized v c =
    eqb (length c.x) (v.x / 8)
    && eqb (length c.y) (v.y / 8)
    && eqb (length c.m) (v.m / 8)
    && eqb (length c.sm) (v.sm / 8)
    && eqb (length c.t) (v.t / 8)
    && eqb (length c.d) v.words
    && eqb (length c.tv) v.t

-- one table changed
abbrev pub with_y : Memory → List ℕ → Memory
with_y c l = memory c.x l c.m c.sm c.t c.d c.tv

abbrev pub with_m : Memory → List ℕ → Memory
with_m c l = memory c.x c.y l c.sm c.t c.d c.tv

abbrev pub with_sm : Memory → List ℕ → Memory
with_sm c l = memory c.x c.y c.m l c.t c.d c.tv

abbrev pub with_d : Memory → List ℤ → Memory
with_d c l = memory c.x c.y c.m c.sm c.t l c.tv

-- contacts and values of the timers changed
abbrev pub with_t : Memory → List ℕ → List ℤ → Memory
with_t c l k = memory c.x c.y c.m c.sm l c.d k

-- the bits of a kind; T contacts for all that are not X, Y, M or SM
unfoldable pub bits_of : ℕ → Memory → List ℕ
bits_of k c = pick (eqb k kind_x) c.x (pick (eqb k kind_y) c.y (pick (eqb k kind_m) c.m (pick (eqb k kind_sm) c.sm c.t)))

-- the bit that an operand names: is it on?
unfoldable pub load_bit : Operand → Memory → Bool
load_bit o c = eqb (bit_at (bits_of o.kind c) o.value) 1

-- a bit of Y or M made b
unfoldable pub store_bit : Operand → ℕ → Memory → Memory
store_bit o b c =
    pick (kind_is kind_y o) (with_y c (with_bit c.y o.value b))
    (pick (kind_is kind_m o) (with_m c (with_bit c.m o.value b))
    c)

-- the bits of a group "of X, Y or M"
unfoldable pub group_bits : ℕ → Memory → List ℕ
group_bits k c = pick (eqb k kind_x) c.x (pick (eqb k kind_y) c.y c.m)

-- a constant as a number of w bits: its low w bits, which are all of it where 3 does not refuse it
abbrev pub constant_at : ℕ → Operand → ℤ
constant_at w o = signed (half w) (o.value % (half w + half w))

-- what a source of w bits reads: a constant, "T (its value)", D, or a group
unfoldable pub load_of : ℕ → Operand → Memory → ℤ
load_of w o c =
    pick (kind_is kind_constant o) (constant_at w o)
    (pick (kind_is kind_t o) (word_at c.tv o.value)
    (pick (kind_is kind_d o) (number_at w c.d o.value)
    (group_at w (group_bits o.kind c) o.value o.group)))

-- what a target of w bits becomes: D, or a group of Y or M
unfoldable pub store_of : ℕ → Operand → ℤ → Memory → Memory
store_of w o z c =
    pick (kind_is kind_d o) (with_d c (with_number w c.d o.value z))
    (pick (kind_is kind_y o) (with_y c (with_group w c.y o.value o.group z))
    (pick (kind_is kind_m o) (with_m c (with_group w c.m o.value o.group z))
    c))

-- the target that follows, for the remainder: one word on at 16 bits, two at 32
abbrev pub following : ℕ → Operand → Operand
following w o = record { kind = o.kind; group = o.group; value = o.value + bits_in w / 16 }
