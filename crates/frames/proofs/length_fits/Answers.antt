use mathlib.Core.Path.{refl, sym, ◌∙◌}
use Rattle.modbus.specs.Frame.{length_fits}
use Rattle.frames.proofs.length_fits.Goals as goal

pub returns-then-is_long : goal.returns-then-is_long
unfolding length_fits
returns-then-is_long c = rw (sym c.is_long.ensures ∙ c.if-is_long.true) refl

pub returns-then-is_short : goal.returns-then-is_short
unfolding length_fits
returns-then-is_short c = rw (sym c.is_long.ensures ∙ c.if-is_long.false, sym c.is_short.ensures ∙ c.if-is_short.true) refl

pub returns : goal.returns
unfolding length_fits
returns c = rw (sym c.is_long.ensures ∙ c.if-is_long.false, sym c.is_short.ensures ∙ c.if-is_short.false) refl
