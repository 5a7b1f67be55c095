-- The lowest number is refused. Any other's opposite is near the range. Assumes nothing.
use mathlib.Core.Path.{◌≡◌, sym, ap, ◌∙◌}
use lib.IntN.{neg_ℤ}
use mir.Syntax.{w64}
use mir.Facts.{to_z-of_z}
use Rattle.ec20.specs.Numbers.{is_lowest}
use Rattle.ec20.specs.Words.{neg_of}
use Rattle.ints.proofs.Parts.{said}
use Rattle.arith.proofs.neg.Goals as goal

-- what the test says of a
tested-2 : (c : goal.After-stored) → c.is_lowest.result ≡ is_lowest c.args.h c.args.a
tested-2 c = c.is_lowest.ensures ∙ ap (is_lowest c.args.h) (to_z-of_z c.ranges.a)

-- what the test says of a
tested : (c : goal.After-refused) → c.is_lowest.result ≡ is_lowest c.args.h c.args.a
tested c = c.is_lowest.ensures ∙ ap (is_lowest c.args.h) (to_z-of_z c.ranges.a)

pub returns-then-is_lowest : goal.returns-then-is_lowest
unfolding neg_of
returns-then-is_lowest c = c.refused.ensures ∙ rw (sym (tested c) ∙ c.if-is_lowest.true)

pub returns-else-is_lowest : goal.returns-else-is_lowest
unfolding neg_of
returns-else-is_lowest c =
    let v = said w64 c.opposite.type_inv (c.opposite.ensures ∙ ap neg_ℤ (to_z-of_z c.ranges.a)) in
    let t = sym (tested-2 c) ∙ c.if-is_lowest.false in
    c.stored.ensures ∙ rw (v, t)
