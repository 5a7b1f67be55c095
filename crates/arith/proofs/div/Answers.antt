-- The machine's quotient and remainder at 64 bits. The quotient is near the range, and its low bits are stored. Assumes nothing.
use mathlib.Core.Path.{◌≡◌, sym, ap, ap₂, ◌∙◌}
use lib.Signed.{quot_z, rem_z}
use mir.Syntax.{w64}
use mir.Val.{to_z, of_z}
use mir.Facts.{to_z-of_z}
use Rattle.ec20.specs.Numbers.{wrap, is_zero}
use Rattle.ec20.specs.Words.{div_of}
use Rattle.ints.proofs.Parts.{said}
use Rattle.arith.proofs.div.Goals as goal

-- what the test says of the divisor
tested-2 : (c : goal.After-both) → c.is_zero.result ≡ is_zero c.args.b
tested-2 c = c.is_zero.ensures ∙ ap is_zero (to_z-of_z c.ranges.b)

-- what the test says of the divisor
tested : (c : goal.After-refused) → c.is_zero.result ≡ is_zero c.args.b
tested c = c.is_zero.ensures ∙ ap is_zero (to_z-of_z c.ranges.b)

exact : (c : goal.After-both) → to_z w64 (of_z w64 c.quot.result) ≡ quot_z c.args.a c.args.b
exact c =
    said w64 c.quot.type_inv (c.quot.ensures ∙ ap₂ quot_z (to_z-of_z c.ranges.a) (to_z-of_z c.ranges.b))

pub returns-then-is_zero : goal.returns-then-is_zero
unfolding div_of
returns-then-is_zero c = c.refused.ensures ∙ rw (sym (tested c) ∙ c.if-is_zero.true)

pub returns : goal.returns
unfolding div_of
returns c =
    let q = said w64 c.wrapped-quotient.type_inv (c.wrapped-quotient.ensures ∙ ap (wrap c.args.h) (exact c)) in
    let r = said w64 c.rest-remainder.type_inv (c.rest-remainder.ensures ∙ ap₂ rem_z (to_z-of_z c.ranges.a) (to_z-of_z c.ranges.b)) in
    let t = sym (tested-2 c) ∙ c.if-is_zero.false in
    c.both.ensures ∙ rw (q, r, t)
