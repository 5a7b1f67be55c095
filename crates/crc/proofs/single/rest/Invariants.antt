-- The invariant: what is left of the bytes, from c, gives what all give.
use Prim.Native.Nat.{◌<◌}
use mathlib.Core.Path.{◌≡◌}
use lib.ListN.{drop}
use Rattle.modbus.specs.Crc.{crc_from}
use Rattle.crc.proofs.single.rest.Given as goal

abbrev pub invariant-loop-b : goal.invariant-loop-b
invariant-loop-b l = (l.c < 65536) × (crc_from l.c (drop l.b-index l.s) ≡ crc_from l.register l.s)
