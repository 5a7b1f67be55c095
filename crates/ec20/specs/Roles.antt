-- The places of operands in the instruction table: the role of each, its width in bits and how many D words it takes.
use Rattle.std.specs.Prelude.{ℕ, ◌*◌, ◌/◌, Bool, ◌||◌, eqb}
use Rattle.ec20.specs.declared.Place.{Place}
use Rattle.ec20.specs.declared.Role.{Role}
use Rattle.ec20.specs.declared.Role.TheVariants.{Unused, BitRead, BitWritten, Source, Target, Changed, Quotient, Timer, Units, Passes, Label}

-- a place: role, width in bits, D words
abbrev pub place : Role → ℕ → ℕ → Place
place r w e = record { role = r; width = w; extent = e }

-- The roles that the table's places have
pattern abbrev pub role_unused : Role
role_unused = Unused

pattern abbrev pub role_bit_read : Role
role_bit_read = BitRead

pattern abbrev pub role_bit_written : Role
role_bit_written = BitWritten

pattern abbrev pub role_source : Role
role_source = Source

pattern abbrev pub role_target : Role
role_target = Target

pattern abbrev pub role_changed : Role
role_changed = Changed

pattern abbrev pub role_quotient : Role
role_quotient = Quotient

pattern abbrev pub role_timer : Role
role_timer = Timer

pattern abbrev pub role_units : Role
role_units = Units

pattern abbrev pub role_passes : Role
role_passes = Passes

pattern abbrev pub role_label : Role
role_label = Label

-- each by a number of our own
abbrev pub role_code : Role → ℕ
role_code Unused = 0
role_code BitRead = 1
role_code BitWritten = 2
role_code Source = 3
role_code Target = 4
role_code Changed = 5
role_code Quotient = 6
role_code Timer = 7
role_code Units = 8
role_code Passes = 9
role_code Label = 10

-- no operand
abbrev pub unused : Place
unused = place role_unused 0 0

-- "bit: X, Y, M, SM, T" and "bit: Y, M"
abbrev pub bit_read : Place
bit_read = place role_bit_read 1 0

abbrev pub bit_written : Place
bit_written = place role_bit_written 1 0

-- a source, a target, and a "target, also read", of w bits: a D word holds 16
abbrev pub source : ℕ → Place
source w = place role_source w (w / 16)

abbrev pub target : ℕ → Place
target w = place role_target w (w / 16)

abbrev pub changed : ℕ → Place
changed w = place role_changed w (w / 16)

-- "DIV: quotient, then remainder, two words; DDIV: four words", "only D": two numbers of w bits
abbrev pub quotient : ℕ → Place
quotient w = place role_quotient w (2 * (w / 16))

-- "T", "constant 1 to 32767", "constant 0 to 32767", "label"
abbrev pub timer : Place
timer = place role_timer 16 0

abbrev pub units : Place
units = place role_units 16 0

abbrev pub passes : Place
passes = place role_passes 16 0

abbrev pub label : Place
label = place role_label 0 0

abbrev pub role_is : Role → Place → Bool
role_is r p = eqb (role_code p.role) (role_code r)

-- its extent is read, its extent is written: a "target, also read" is both
abbrev pub is_read : Place → Bool
is_read p = role_is role_source p || role_is role_changed p

abbrev pub is_written : Place → Bool
is_written p = role_is role_target p || role_is role_changed p || role_is role_quotient p
