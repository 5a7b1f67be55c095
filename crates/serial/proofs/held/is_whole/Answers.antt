-- By cases of the tests. Assumes nothing.
use mathlib.Core.Path.{◌∙◌}
use native.Mathlib.Omega.{arith}
use lib.ListN.{length-take}
use Rattle.serial.proofs.Frames.{whole-short, whole_long, whole-there}
use Rattle.serial.proofs.held.is_whole.Goals as goal

pub returns-then-n-lt2 : goal.returns-then-n-lt2
returns-then-n-lt2 c = let a = c.args in whole-short a.n a.b.now (omega arith)

pub returns-then-n-b : goal.returns-then-n-b
returns-then-n-b c = let a = c.args in whole_long a.n a.b.now (omega arith) (omega arith)

pub slice_bounds-crc_fits-end : goal.slice_bounds-crc_fits-end
slice_bounds-crc_fits-end c = simp length-take (omega arith)

pub crc_fits-requires : goal.crc_fits-requires
crc_fits-requires c = simp length-take (omega arith)

pub returns : goal.returns
returns c =
    let a = c.args in
    c.crc_fits.ensures ∙ whole-there a.n a.b.now (omega arith) (omega arith)
