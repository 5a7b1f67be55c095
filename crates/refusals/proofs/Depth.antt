-- The loops that 6 counts are those that 7 names: as many are open before a record as the record stands in.
use Prim.Native.Nat.{ℕ, zero, suc, ◌-◌}
use mathlib.Core.List.{List, [], ◌∷◌}
use mathlib.Core.Path.{◌≡◌, refl, ap, ◌∙◌}
use native.Mathlib.Omega.{arith}
use lib.ListN.{length}
use Rattle.ec20.specs.declared.Control.{Control}
use Rattle.ec20.specs.declared.Control.TheVariants.{Plain, Opens, Closes, Jumps, Marks, Ends}
use Rattle.ec20.specs.Control.{Controls, open_after}
use Rattle.ec20.specs.Labels.{rest, opens_after, opens_of}
use Rattle.refusals.specs.Structure.{open_at}

one_less : (o : List ℕ) → length (rest o) ≡ length o - 1
unfolding rest
one_less [] = refl
one_less (h ∷ t) = omega arith

as-many-after : (i : Control) (k : ℕ) (o : List ℕ) → length (opens_after i k o) ≡ open_after i (length o)
unfolding opens_after open_after
as-many-after Plain k o = refl
as-many-after (Opens n) k o = omega arith
as-many-after Closes k o = one_less o
as-many-after (Jumps l) k o = refl
as-many-after (Marks l) k o = refl
as-many-after Ends k o = refl

pub as_many : (code : Controls) (k : ℕ) → length (opens_of code k) ≡ open_at code k
unfolding opens_of open_at
as_many code zero = refl
as_many code (suc k) = as-many-after (code k) k (opens_of code k) ∙ ap (open_after (code k)) (as_many code k)
