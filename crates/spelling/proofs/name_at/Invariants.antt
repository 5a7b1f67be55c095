-- `spelling::name_at` meets its contract. The loop's invariant: none of the bytes passed is a line feed. Assumes nothing.
use Prim.Native.Nat.{ℕ, ◌<◌, ◌≤◌}
use mathlib.Core.Path.{◌≡◌}
use Rattle.units.specs.Spelling.{byte_in}
use Rattle.spelling.proofs.name_at.Given as goal

abbrev pub invariant-loop-i : goal.invariant-loop-i
invariant-loop-i l = (j : ℕ) → l.from ≤ j → j < l.i → byte_in l.s j ≡ 10 → ⊥
