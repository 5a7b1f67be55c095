-- The invariant: what is left of the bytes, from the sums so far, gives the checksum of all. Assumes nothing.
use Rattle.std.proofs.Common.{◌≡◌, drop}
use Rattle.cases.specs.Summed.{sum_from, sum_of}
use Rattle.cases.proofs.octets.checksum.Given as goal

abbrev pub invariant-loop-byte : goal.invariant-loop-byte
invariant-loop-byte l = sum_from l.one l.two (drop l.byte-index l.b) ≡ sum_of l.b
