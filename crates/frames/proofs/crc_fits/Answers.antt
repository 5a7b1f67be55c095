-- The last two bytes as a number, against the CRC of those before. Assumes nothing.
use mathlib.Core.Path.{refl}
use Rattle.modbus.specs.Frame.{crc_fits}
use Rattle.frames.proofs.crc_fits.Goals as goal

pub returns : goal.returns
unfolding crc_fits
returns c = rw (c.u16_at.ensures.0, c.crc.ensures.0) refl
