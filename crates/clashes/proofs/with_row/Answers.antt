use mathlib.Core.Path.{refl, sym}
use Rattle.clashes.specs.Rows.{with_row}
use Rattle.clashes.proofs.with_row.Goals as goal

pub returns : goal.returns
unfolding with_row
returns c = rw (sym c.right_block.ensures) refl
