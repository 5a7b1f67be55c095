-- The invariant: what is left of the bytes, from c, gives the CRC of all.
use Prim.Native.Nat.{◌<◌, ◌≤◌, ◌-◌}
use mathlib.Core.Path.{◌≡◌}
use lib.ListN.{length, drop}
use Rattle.modbus.specs.Crc.{crc_from, crc_of}
use Rattle.crc.proofs.all.Given as goal

abbrev pub invariant-loop-i : goal.invariant-loop-i
invariant-loop-i l = (l.i ≤ length l.s) × (l.c < 65536) × (crc_from l.c (drop l.i l.s) ≡ crc_of l.s)

abbrev pub decreases-loop-i : goal.decreases-loop-i
decreases-loop-i l = length l.s - l.i
