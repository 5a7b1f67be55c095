-- The loop's invariant: the search from record k on finds what the whole search finds.
use Prim.Native.Nat.{ℕ, ◌+◌, ◌*◌, ◌-◌, ◌≤◌}
use mathlib.Core.Path.{◌≡◌}
use Rattle.ec20.specs.Basics.{first_at}
use Rattle.ec20.specs.File.{record_from}
use Rattle.ec20.specs.Move.{block, partly}
use Rattle.ec20.specs.UseMap.{record_has}
use Rattle.splits.proofs.first_split.Given as goal

abbrev pub invariant-loop-k : goal.invariant-loop-k
invariant-loop-k l =
    (l.k ≤ l.count)
    × (first_at (λ (j : ℕ). record_has (partly (block l.start l.n)) (record_from l.f (l.first + 20 * j))) 0 l.count ≡ first_at (λ (j : ℕ). record_has (partly (block l.start l.n)) (record_from l.f (l.first + 20 * j))) l.k (l.count - l.k))
