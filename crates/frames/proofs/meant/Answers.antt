use mathlib.Core.Path.{refl, sym, ◌∙◌}
use native.Mathlib.Omega.{arith}
use Rattle.modbus.specs.Exceptions.{meant}
use Rattle.frames.proofs.meant.Goals as goal

pub returns-then-is_single : goal.returns-then-is_single
unfolding meant
returns-then-is_single c = (rw (sym c.is_single.ensures ∙ c.if-is_single.true) refl, omega arith)

pub returns-else-is_single : goal.returns-else-is_single
unfolding meant
returns-else-is_single c = (rw (sym c.is_single.ensures ∙ c.if-is_single.false) refl, c.requires)
