-- Each entry is computed. Assumes nothing.
use mathlib.Core.Path.{refl}
use Rattle.modbus.specs.Crc.{crc_bit, crc_byte}
use Rattle.crc.proofs.Tables.{low-entry, last-key}
use Rattle.crc.proofs.single.low.Goals as goal

pub returns-in-0 : goal.returns-in-0
unfolding crc_bit crc_byte
returns-in-0 c = low-entry _ _ _ c.in-0.is refl

pub returns-in-1 : goal.returns-in-1
unfolding crc_bit crc_byte
returns-in-1 c = low-entry _ _ _ c.in-1.is refl

pub returns-in-2 : goal.returns-in-2
unfolding crc_bit crc_byte
returns-in-2 c = low-entry _ _ _ c.in-2.is refl

pub returns-in-3 : goal.returns-in-3
unfolding crc_bit crc_byte
returns-in-3 c = low-entry _ _ _ c.in-3.is refl

pub returns-in-4 : goal.returns-in-4
unfolding crc_bit crc_byte
returns-in-4 c = low-entry _ _ _ c.in-4.is refl

pub returns-in-5 : goal.returns-in-5
unfolding crc_bit crc_byte
returns-in-5 c = low-entry _ _ _ c.in-5.is refl

pub returns-in-6 : goal.returns-in-6
unfolding crc_bit crc_byte
returns-in-6 c = low-entry _ _ _ c.in-6.is refl

pub returns-in-7 : goal.returns-in-7
unfolding crc_bit crc_byte
returns-in-7 c = low-entry _ _ _ c.in-7.is refl

pub returns-in-8 : goal.returns-in-8
unfolding crc_bit crc_byte
returns-in-8 c = low-entry _ _ _ c.in-8.is refl

pub returns-in-9 : goal.returns-in-9
unfolding crc_bit crc_byte
returns-in-9 c = low-entry _ _ _ c.in-9.is refl

pub returns-in-10 : goal.returns-in-10
unfolding crc_bit crc_byte
returns-in-10 c = low-entry _ _ _ c.in-10.is refl

pub returns-in-11 : goal.returns-in-11
unfolding crc_bit crc_byte
returns-in-11 c = low-entry _ _ _ c.in-11.is refl

pub returns-in-12 : goal.returns-in-12
unfolding crc_bit crc_byte
returns-in-12 c = low-entry _ _ _ c.in-12.is refl

pub returns-in-13 : goal.returns-in-13
unfolding crc_bit crc_byte
returns-in-13 c = low-entry _ _ _ c.in-13.is refl

pub returns-in-14 : goal.returns-in-14
unfolding crc_bit crc_byte
returns-in-14 c = low-entry _ _ _ c.in-14.is refl

pub returns-in_default : goal.returns-in_default
unfolding crc_bit crc_byte
returns-in_default c = low-entry _ _ _ (last-key _ _ c.in_default.in_default-own.rest c.requires) refl
