-- What a search finds lies in the program: with `or_past` it is at most the count; and past the program there is END. Assumes nothing.
use Prim.Native.Nat.{ℕ, zero, suc, ◌+◌, ◌-◌, ◌<◌, ◌≤◌}
use mathlib.Core.Bool.{Bool, true, false}
use mathlib.Core.Path.{◌≡◌, sym, subst}
use native.Mathlib.Omega.{arith}
use borrow.Author.Tests.{le-ltb}
use Rattle.ec20.proofs.Walkers.{search-turn}
use Rattle.ec20.specs.Basics.{pick, first_at}
use Rattle.ec20.specs.Code.{code_of, program_in}
use Rattle.ec20.specs.Control.{Controls, search_body, next_of_for, first_label, or_past, marks, closes}
use Rattle.ec20.specs.File.{Records}
use Rattle.ec20.specs.Walkers.{turn_of, by_turn}
use Rattle.ec20.specs.declared.Control.{Control}
use Rattle.ec20.specs.declared.Control.TheVariants.{Plain, Opens, Closes, Jumps, Marks, Ends}
use Rattle.ec20.specs.Found.{Found}
use Rattle.ec20.specs.Found.{At}
use Rattle.ec20.specs.declared.Instr.TheVariants.{End}
use Rattle.ec20.specs.declared.Turn.{Turn}
use Rattle.ec20.specs.declared.Turn.TheVariants.{Hit, Stop, On}
use Rattle.jumps.specs.Prepared.{goes_to}

-- past the last record there is END
pub end-past : (rs : Records) (k : ℕ) → rs.count ≤ k → (program_in rs).code k ≡ End
unfolding code_of
end-past rs k h = rw (le-ltb k rs.count h)

by_turn_lem : (m : ℕ) (t : Turn) (k : ℕ) (more : ℕ → Found) → k < m → ((j : ℕ) → or_past m (more j) ≤ m) → or_past m (by_turn t k more) ≤ m
unfolding by_turn
by_turn_lem m Hit k more h f = omega arith
by_turn_lem m Stop k more h f = omega arith
by_turn_lem m (On d) k more h f = f d

-- of n records from k on that all lie below m
find-in : (want : Control → Bool) (code : Controls) (m n k d : ℕ) → ((j : ℕ) → j < n → k + j < m) → or_past m (search_body code want d k n) ≤ m
unfolding search_body
find-in want code m zero k d h = omega arith
find-in want code m (suc n) k d h =
    let a : k + 0 < m = h 0 (omega arith) in
    subst (λ (x : Found). or_past m x ≤ m) (sym (search-turn code want d k n))
    (by_turn_lem m (turn_of (want (code k)) (code k) d) k _ (omega arith)
    (λ i. find-in want code m n (k + 1) i (λ j b. let c : k + (j + 1) < m = h (j + 1) (omega arith) in omega arith)))

by-test : (m : ℕ) (t : Bool) (k : ℕ) (later : Found) → k < m → or_past m later ≤ m → or_past m (pick t (At k) later) ≤ m
by-test m true k later h f = omega arith
by-test m false k later h f = f

first-in : (test : ℕ → Bool) (m n k : ℕ) → ((j : ℕ) → j < n → k + j < m) → or_past m (first_at test k n) ≤ m
unfolding first_at
first-in test m zero k h = omega arith
first-in test m (suc n) k h =
    let a : k + 0 < m = h 0 (omega arith) in
    by-test m (test k) k _ (omega arith)
    (first-in test m n (k + 1) (λ j b. let c : k + (j + 1) < m = h (j + 1) (omega arith) in omega arith))

-- the NEXT of a FOR
pub next-in : (code : Controls) (count k : ℕ) → or_past count (next_of_for code count k) ≤ count
next-in code count k = find-in closes code count (count - (k + 1)) (k + 1) 0 (λ j h. omega arith)

-- a label's place
pub label-in : (code : Controls) (count l : ℕ) → or_past count (first_label code count l) ≤ count
label-in code count l = first-in (λ k. marks l (code k)) count count 0 (λ j h. omega arith)

-- where a record goes
pub goes_in : (code : Controls) (count k : ℕ) (i : Control) → goes_to code count k i ≤ count
unfolding goes_to
goes_in code count k Plain = omega arith
goes_in code count k (Opens n) = next-in code count k
goes_in code count k Closes = omega arith
goes_in code count k (Jumps l) = label-in code count l
goes_in code count k (Marks l) = omega arith
goes_in code count k Ends = omega arith
