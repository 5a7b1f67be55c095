use mathlib.Core.Path.{◌≡◌, sym, ap₂, ◌∙◌}
use lib.IntN.{◌-ℤ◌}
use mir.Syntax.{w64}
use mir.Val.{to_z, of_z}
use Rattle.ec20.specs.Numbers.{signed}
use Rattle.ints.proofs.Parts.{said}
use Rattle.ints.proofs.TwosLaws.{signed-small, signed-minus}
use Rattle.ints.proofs.of_bits.Goals as goal
use Rattle.ints.proofs.of_bits.Goals.{After-whole-else-u-h-2}

-- what is subtracted, as numbers
parts : (c : After-whole-else-u-h-2) → to_z w64 (of_z w64 c.whole-else-u-h.result) -ℤ to_z w64 (of_z w64 c.whole-else-u-h-2.result) ≡ signed c.args.h c.args.u
parts c =
    ap₂ ◌-ℤ◌ (said w64 c.whole-else-u-h.type_inv c.whole-else-u-h.ensures) (said w64 c.whole-else-u-h-2.type_inv c.whole-else-u-h-2.ensures)
    ∙ signed-minus c.args.h c.args.u c.if-u-h.false c.requires.0

pub returns-then-u-h : goal.returns-then-u-h
returns-then-u-h c =
    said w64 c.whole.type_inv c.whole.ensures
    ∙ sym (signed-small c.args.h c.args.u c.if-u-h.true)

pub returns-else-u-h : goal.returns-else-u-h
returns-else-u-h c = said w64 c.minus.type_inv c.minus.ensures ∙ parts c.before
