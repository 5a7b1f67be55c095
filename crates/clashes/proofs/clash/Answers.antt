use mathlib.Core.Path.{refl, sym}
use Rattle.units.specs.Clash.{clash_of}
use Rattle.clashes.proofs.clash.Goals as goal

pub returns-then-same_name : goal.returns-then-same_name
unfolding clash_of
returns-then-same_name c =
    rw (sym c.same_name.ensures, c.if-same_name.true) refl

pub returns : goal.returns
unfolding clash_of
returns c =
    rw (sym c.same_name.ensures, c.if-same_name.false) c.meets.ensures
