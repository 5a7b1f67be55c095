use native.Mathlib.Omega.{arith}
use lib.ListN.{length-take}
use Rattle.crc.proofs.crc.Goals as goal

pub slice_bounds-all-end : goal.slice_bounds-all-end
slice_bounds-all-end c = simp length-take (omega arith)
