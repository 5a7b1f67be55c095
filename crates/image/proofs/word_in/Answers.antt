-- The two bytes as a word, or 0 outside. Assumes nothing.
use mathlib.Core.Path.{refl, ap, ◌∙◌}
use native.Mathlib.Omega.{arith}
use lib.ListN.{length}
use borrow.Author.Tests.{lt-ltb, le-ltb}
use mir.Syntax.{w16}
use Prim.Native.Nat.{◌/◌}
use Rattle.ec20.specs.Numbers.{signed}
use Rattle.ints.proofs.Parts.{said}
use Rattle.image.specs.Image.{word_in}
use Rattle.image.proofs.word_in.Goals as goal

pub returns-then-i-b : goal.returns-then-i-b
unfolding word_in
returns-then-i-b c =
    let a = c.args in
    rw (lt-ltb a.i (length a.b.now / 2) (omega arith))
    (said w16 c.of_bits16.type_inv (c.of_bits16.ensures ∙ ap (signed 32768) c.u16_at.ensures.0))

pub returns-else-i-b : goal.returns-else-i-b
unfolding word_in
returns-else-i-b c = let a = c.args in rw (le-ltb a.i (length a.b.now / 2) (omega arith)) refl
