-- The loop body that each record stands in directly, as a table. A body is told by its FOR: one more than the FOR's record, and 0 outside all
-- loops.
use Rattle.std.specs.Prelude.{ℕ, ◌+◌, ◌-◌, ◌<◌, List, [], ◌∷◌, ◌≡◌, eqb, get_or}
use Rattle.ec20.specs.Basics.{pick}
use Rattle.ec20.specs.Control.{Controls}
use Rattle.ec20.specs.Labels.{opens_of}
use Rattle.ec20.specs.declared.Control.{Control}
use Rattle.ec20.specs.declared.Control.TheVariants.{Plain, Opens, Closes, Jumps, Marks, Ends}

-- of the loops that are open, the innermost first
unfoldable pub home_in : List ℕ → ℕ
home_in [] = 0
home_in (h ∷ t) = h + 1

unfoldable pub Homes : Controls → ℕ → List ℕ → Type 0
Homes code count t = (k : ℕ) → k < count → get_or t k 0 ≡ home_in (opens_of code k)

-- the body around the body h: the one that its FOR stands in, by the table
unfoldable pub home_around : ℕ → List ℕ → ℕ
home_around h t = pick (eqb h 0) 0 (get_or t (h - 1) 0)

-- the body of the record after record k, which stands in the body h
unfoldable pub home_after : Control → ℕ → ℕ → List ℕ → ℕ
home_after Plain k h t = h
home_after (Opens n) k h t = k + 1
home_after Closes k h t = home_around h t
home_after (Jumps l) k h t = h
home_after (Marks l) k h t = h
home_after Ends k h t = h
