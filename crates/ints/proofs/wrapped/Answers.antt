-- The low bits, read as signed: the two steps are those of `wrap`. Assumes nothing.
use mathlib.Core.Path.{◌≡◌, ap, ◌∙◌}
use Prim.Native.Nat.{◌+◌}
use mir.Syntax.{w64}
use mir.Facts.{to_z-of_z}
use Rattle.ec20.specs.Numbers.{low, signed, wrap}
use Rattle.ints.proofs.Parts.{said}
use Rattle.ints.proofs.wrapped.Goals as goal
use Rattle.ints.proofs.wrapped.Goals.{After-bits}

lows : (c : After-bits) → c.bits.result ≡ low (c.args.h + c.args.h) c.args.z
lows c = c.bits.ensures ∙ ap (low (c.args.h + c.args.h)) (to_z-of_z c.ranges.z)

pub returns : goal.returns
unfolding wrap
returns c =
    said w64 c.of_bits.type_inv (c.of_bits.ensures ∙ ap (signed c.args.h) (lows c.before))
