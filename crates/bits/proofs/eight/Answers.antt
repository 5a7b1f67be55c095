-- Eight bytes. Assumes nothing.
use mathlib.Core.Path.{◌∙◌}
use native.Mathlib.Omega.{arith}
use Rattle.bits.proofs.Steps.{read-eight}
use Rattle.bits.proofs.eight.Goals as goal

pub returns : goal.returns
returns c = c.from_le_bytes.ensures ∙ read-eight c.args.bits.now c.args.at (λ j. omega (arith, c.type_inv.bits j))
