-- The lowest number is refused. Any other's size is itself, or its opposite where it is negative. Assumes nothing.
use mathlib.Core.Path.{◌≡◌, sym, ap, ◌∙◌}
use lib.IntN.{ℤ, pos, neg_ℤ}
use lib.Signed.{lt_z}
use mir.Syntax.{w64}
use mir.Facts.{to_z-of_z}
use Rattle.ec20.specs.Numbers.{is_lowest}
use Rattle.ec20.specs.Words.{vabs_of}
use Rattle.ints.proofs.Parts.{said, not_neg}
use Rattle.arith.proofs.Exact.{size-neg}
use Rattle.arith.proofs.vabs.Goals as goal

-- what the tests say of a
tested-3 : (c : goal.After-stored-2) → c.is_lowest-lowest.result ≡ is_lowest c.args.h c.args.a
tested-3 c = c.is_lowest-lowest.ensures ∙ ap (is_lowest c.args.h) (to_z-of_z c.ranges.a)

-- what the tests say of a
tested-2 : (c : goal.After-stored) → c.is_lowest-lowest.result ≡ is_lowest c.args.h c.args.a
tested-2 c = c.is_lowest-lowest.ensures ∙ ap (is_lowest c.args.h) (to_z-of_z c.ranges.a)

-- what the tests say of a
tested : (c : goal.After-refused) → c.is_lowest-lowest.result ≡ is_lowest c.args.h c.args.a
tested c = c.is_lowest-lowest.ensures ∙ ap (is_lowest c.args.h) (to_z-of_z c.ranges.a)

sign-2 : (c : goal.After-stored-2) → c.less-negative.result ≡ lt_z c.args.a (pos 0)
sign-2 c = c.less-negative.ensures ∙ ap (λ (y : ℤ). lt_z y (pos 0)) (to_z-of_z c.ranges.a)

sign : (c : goal.After-stored) → c.less-negative.result ≡ lt_z c.args.a (pos 0)
sign c = c.less-negative.ensures ∙ ap (λ (y : ℤ). lt_z y (pos 0)) (to_z-of_z c.ranges.a)

pub returns-then-lowest : goal.returns-then-lowest
unfolding vabs_of
returns-then-lowest c = c.refused.ensures ∙ rw (sym (tested c) ∙ c.if-lowest.true)

pub returns-then-negative : goal.returns-then-negative
unfolding vabs_of
returns-then-negative c =
    let e = ap neg_ℤ (to_z-of_z c.ranges.a) ∙ size-neg c.args.a (sym (sign c) ∙ c.if-negative.true) in
    let v = said w64 c.opposite.type_inv (c.opposite.ensures ∙ e) in
    let t = sym (tested-2 c) ∙ c.if-lowest.false in
    c.stored.ensures ∙ rw (v, t)

pub returns : goal.returns
unfolding vabs_of
returns c =
    let v = to_z-of_z c.ranges.a ∙ sym (not_neg c.args.a (sym (sign-2 c) ∙ c.if-negative.false)).1 in
    let t = sym (tested-3 c) ∙ c.if-lowest.false in
    c.stored-2.ensures ∙ rw (v, t)
