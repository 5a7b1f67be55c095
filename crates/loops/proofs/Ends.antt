-- Where a sequence ends: at or after its first record, in the program, and inside a loop at a NEXT, which is not the last record. All of it
-- is shown of the definition.
use mathlib.Core.Path.{◌≡◌}
use mathlib.Core.Logic.{dite}
use Prim.Native.Nat.{ℕ, zero, suc, ◌+◌, ◌*◌, ◌<◌, ◌≤◌}
use native.Mathlib.Decide.{ℕ_discrete, dec_lt}
use native.Mathlib.Omega.{arith}
use borrow.Author.Tests.{eq-eqb, ne_eqb, lt-ltb, le-ltb}
use Rattle.std.specs.Prelude.{Ok}
use Rattle.ec20.specs.declared.Control.{Control}
use Rattle.ec20.specs.declared.Control.TheVariants.{Plain, Opens, Closes, Jumps, Marks, Ends}
use Rattle.ec20.specs.declared.Act.{Act}
use Rattle.ec20.specs.declared.Act.TheVariants.{Go, Enter, Leave, Finish, Refuse}
use Rattle.ec20.specs.Walked.{Walked}
use Rattle.ec20.specs.Walked.{Bad}
use Rattle.ec20.specs.Control.{Controls}
use Rattle.ec20.specs.Walkers.{last_act, mid_act, act_of, plus, follow, by_act, sequence_of}
use Rattle.loops.specs.Capped.{cap}

-- where each act is met, and that going on takes no more steps than the cap
unfoldable pub Fit : ℕ → ℕ → ℕ → Act → Type 0
Fit count k d (Go s) = (k + 1 < count) × (s ≤ cap)
Fit count k d (Enter n) = (k + 1 < count) × (d < 8)
Fit count k d Leave = k + 1 < count
Fit count k d Finish = d ≡ 0
Fit count k d Refuse = Unit {0}

last_fit : (count k d : ℕ) (x : Control) → Fit count k d (last_act x d)
unfolding Fit last_act
last_fit count k d Plain = tt
last_fit count k d (Opens n) = tt
last_fit count k d Closes = tt
last_fit count k d (Jumps l) = tt
last_fit count k d (Marks l) = tt
last_fit count k d Ends =
    dite (ℕ_discrete d 0) (λ h. rw (eq-eqb d 0 h) h) (λ h. rw (ne_eqb d 0 h) tt)

mid-fit : (count k d : ℕ) (x : Control) → k + 1 < count → Fit count k d (mid_act x d)
unfolding Fit mid_act
mid-fit count k d Plain h = (h, omega arith)
mid-fit count k d (Opens n) h =
    dite (dec_lt d 8) (λ g. rw (lt-ltb d 8 g) (h, g)) (λ g. rw (le-ltb d 8 (omega arith)) tt)
mid-fit count k d Closes h =
    dite (dec_lt 0 d) (λ g. rw (lt-ltb 0 d g) h) (λ g. rw (le-ltb 0 d (omega arith)) tt)
mid-fit count k d (Jumps l) h = (h, omega arith)
mid-fit count k d (Marks l) h = (h, omega arith)
mid-fit count k d Ends h = tt

pub fit : (code : Controls) (count k d : ℕ) → k < count → Fit count k d (act_of code count k d)
unfolding act_of
fit code count k d inside =
    dite (ℕ_discrete (k + 1) count)
    (λ h. rw (eq-eqb (k + 1) count h) (last_fit count k d (code k)))
    (λ h. rw (ne_eqb (k + 1) count h) (mid-fit count k d (code k) (omega arith)))

-- what was walked from record k on, with d loops open
unfoldable pub Ended : ℕ → ℕ → ℕ → Walked → Type 0
Ended count k d (Ok a) = (k ≤ a.next) × ((a.next ≤ count) × (0 < d → a.next + 1 < count))
Ended count k d (Bad b) = Unit {0}

ended-plus : (count k k' d s : ℕ) (x : Walked) → k ≤ k' → Ended count k' d x → Ended count k d (plus s x)
unfolding Ended plus
ended-plus count k k' d s (Ok a) h e = (omega arith, e.1)
ended-plus count k k' d s (Bad b) h e = tt

ended-follow : (count k d n : ℕ) (x : Walked) (after : ℕ → Walked) → Ended count (k + 1) (d + 1) x → ((m : ℕ) → m < count → Ended count m d (after m)) → Ended count k d (follow n x after)
unfolding Ended follow
ended-follow count k d n (Ok a) after e h =
    let q : a.next + 1 < count = e.1.1 (omega arith) in
    ended-plus count k (a.next + 1) d (1 + n * (a.steps + 1)) (after (a.next + 1)) (omega arith) (h (a.next + 1) q)
ended-follow count k d n (Bad b) after e h = tt

ended-act : (count k d : ℕ) (a : Act) (walk : ℕ → ℕ → Walked) → k < count → Fit count k d a → ((m j : ℕ) → m < count → Ended count m j (walk m j)) → Ended count k d (by_act a k d walk)
unfolding Ended Fit by_act
ended-act count k d (Go s) walk i h w =
    ended-plus count k (k + 1) d s (walk (k + 1) d) (omega arith) (w (k + 1) d h.0)
ended-act count k d (Enter n) walk i h w =
    ended-follow count k d n (walk (k + 1) (d + 1)) (λ m. walk m d) (w (k + 1) (d + 1) h.0) (λ m g. w m d g)
ended-act count k d Leave walk i h w = (omega arith, (omega arith, λ _. h))
ended-act count k d Finish walk i h w = (omega arith, (omega arith, λ p. omega arith))
ended-act count k d Refuse walk i h w = tt

pub ended : (code : Controls) (count n k d : ℕ) → k < count → Ended count k d (sequence_of code count n k d)
unfolding Ended sequence_of
ended code count zero k d i = tt
ended code count (suc n) k d i =
    ended-act count k d (act_of code count k d) (λ m j. sequence_of code count n m j) i (fit code count k d i) (λ m j g. ended code count n m j g)
