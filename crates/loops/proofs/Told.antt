-- The cap is above what 8 lets pass, so that a capped W tells the same.
use mathlib.Core.Path.{◌≡◌, refl}
use mathlib.Core.Logic.{dite}
use Prim.Native.Nat.{◌≤◌, min}
use native.Mathlib.Decide.{dec_le}
use native.Mathlib.Nat.{min-eq_left}
use native.Mathlib.Omega.{arith}
use borrow.Author.Tests.{le-leb, lt-leb}
use Rattle.std.specs.Prelude.{Ok}
use Rattle.ec20.specs.Walked.{Walked}
use Rattle.ec20.specs.Walked.{Bad}
use Rattle.ec20.specs.Loops.{too_long}
use Rattle.ec20.specs.Walkers.{unsound, steps_walked}
use Rattle.loops.specs.Capped.{cap, capped}

-- 6 and its record are as they are
pub unsound-capped : (x : Walked) → unsound (capped x) ≡ unsound x
unfolding capped
unsound-capped (Ok a) = refl
unsound-capped (Bad k) = refl

-- so is 8
pub too-long-capped : (x : Walked) → too_long (steps_walked (capped x)) ≡ too_long (steps_walked x)
unfolding capped
too-long-capped (Ok a) =
    dite (dec_le a.steps 10000000)
    (λ h. rw (le-leb (min a.steps cap) 10000000 (omega arith), le-leb a.steps 10000000 h))
    (λ h. rw (lt-leb (min a.steps cap) 10000000 (omega arith), lt-leb a.steps 10000000 (omega arith)))
too-long-capped (Bad k) = refl

-- and W, where 8 lets it pass
pub steps-capped : (x : Walked) → steps_walked x ≤ 10000000 → steps_walked (capped x) ≡ steps_walked x
unfolding capped
steps-capped (Ok a) h = min-eq_left (omega arith)
steps-capped (Bad k) h = refl
