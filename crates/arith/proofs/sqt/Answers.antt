-- A negative source is refused. Any other is its own size, and has a root. Assumes nothing.
use mathlib.Core.Path.{◌≡◌, sym, ap, ◌∙◌}
use lib.IntN.{ℤ, pos, nat_abs}
use lib.Signed.{lt_z}
use mir.Facts.{to_z-of_z}
use Rattle.ec20.specs.Numbers.{root_of}
use Rattle.ec20.specs.Words.{sqt_of, rooted}
use Rattle.arith.proofs.sqt.Goals as goal

-- what the test says of a, and what is taken of it
sign-3 : (c : goal.After-whole_root) → c.less.result ≡ lt_z c.args.a (pos 0)
sign-3 c = c.less.ensures ∙ ap (λ (y : ℤ). lt_z y (pos 0)) (to_z-of_z c.ranges.a)

-- what the test says of a, and what is taken of it
sign : (c : goal.After-refused) → c.less.result ≡ lt_z c.args.a (pos 0)
sign c = c.less.ensures ∙ ap (λ (y : ℤ). lt_z y (pos 0)) (to_z-of_z c.ranges.a)

size-2 : (c : goal.After-whole_root) → pos c.plain.result ≡ c.args.a
size-2 c = c.plain.ensures ∙ to_z-of_z c.ranges.a

pub returns-then-less : goal.returns-then-less
unfolding sqt_of
returns-then-less c = c.refused.ensures ∙ rw (sym (sign c) ∙ c.if-less.true)

pub returns : goal.returns
unfolding sqt_of
returns c =
    let t = sym (sign-3 c) ∙ c.if-less.false in
    c.whole_root.ensures ∙ rw t (ap (λ (y : ℤ). rooted (nat_abs y) (root_of (nat_abs y))) (size-2 c))
