-- What loops and jumps of an accepted program are: what is left of 6, 7 and 8 once none of them is given.
use Rattle.std.specs.Prelude.{ℕ, ◌≤◌, ◌<◌, ◌≡◌}
use Rattle.ec20.specs.declared.Control.TheVariants.{Jumps, Marks}
use Rattle.ec20.specs.Found.{At}
use Rattle.ec20.specs.Walked.{Done}
use Rattle.ec20.specs.Control.{Controls, first_label}
use Rattle.ec20.specs.Walkers.{walk_of}
use Rattle.ec20.specs.Labels.{Stands}
use Rattle.ec20.specs.Loops.{most_steps}

-- a program of `count` records and W steps
pub record Right (code : Controls) (count w : ℕ) : Type 0 where
  -- it is a sequence of loops and records, at most 8 deep, up to END, which is its last record
  pub walks : walk_of code count ≡ Done count w
  -- each CJ's label "stands later and directly in the same loop body"
  pub jumps : (k l : ℕ) → k < count → code k ≡ Jumps l → (t : ℕ) × Stands code count k l t
  -- no label is set twice
  pub once : (k l : ℕ) → k < count → code k ≡ Marks l → first_label code count l ≡ At k
  -- W is 10,000,000 at most
  pub few : w ≤ most_steps
