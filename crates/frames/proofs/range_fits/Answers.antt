use mathlib.Core.Path.{refl, sym, ◌∙◌}
use Rattle.modbus.specs.Exceptions.{range_fits}
use Rattle.frames.proofs.range_fits.Goals as goal

pub returns-then-is_of_coils : goal.returns-then-is_of_coils
unfolding range_fits
returns-then-is_of_coils c = rw (sym c.is_of_coils.ensures ∙ c.if-is_of_coils.true, c.meant-k.ensures.0) refl

pub returns : goal.returns
unfolding range_fits
returns c = rw (sym c.is_of_coils.ensures ∙ c.if-is_of_coils.false, c.meets_work.ensures, c.meant-k.ensures.0) refl
