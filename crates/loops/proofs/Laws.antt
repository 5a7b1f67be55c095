-- What the walkers' proofs cite: the cap, each act's step of a sequence, the loop around a sequence, and how far both reach.
use mathlib.Core.Path.{◌≡◌, refl, ap, ◌∙◌}
use mathlib.Core.Logic.{dite}
use Prim.Native.Nat.{ℕ, zero, suc, ◌+◌, ◌-◌, ◌*◌, ◌<◌, ◌≤◌, min}
use native.Mathlib.Nat.{zero-mul, suc-mul, min-eq_left, min-eq_right, le-mul_of_pos_right, le_refl}
use native.Mathlib.Decide.{dec_le}
use native.Mathlib.Omega.{arith}
use Rattle.std.specs.Prelude.{Ok}
use Rattle.ec20.proofs.Parts.{done-parts}
use Rattle.ec20.specs.declared.Act.TheVariants.{Go, Enter, Leave, Finish, Refuse}
use Rattle.ec20.specs.Walked.{Walked}
use Rattle.ec20.specs.Walked.{Done, Bad}
use Rattle.ec20.specs.Control.{Controls}
use Rattle.ec20.specs.Walkers.{act_of, plus, follow, by_act, sequence_of}
use Rattle.loops.specs.Capped.{cap, capped}
use Rattle.loops.specs.Walks.{loop_of, IsSequence, IsLoop, Small}
use Rattle.loops.proofs.Ends.{Fit, fit, Ended, ended}

-- The cap: what is capped first and what is capped last are the same

plus-capped : (s : ℕ) (x : Walked) → capped (plus s (capped x)) ≡ capped (plus s x)
unfolding capped plus
plus-capped s (Ok a) = ap (Done a.next) (omega arith)
plus-capped s (Bad k) = refl

capped-plus : (s : ℕ) (x : Walked) → capped (plus (min s cap) x) ≡ capped (plus s x)
unfolding capped plus
capped-plus s (Ok a) = ap (Done a.next) (omega arith)
capped-plus s (Bad k) = refl

body-capped : (n w : ℕ) → min (1 + n * (min w cap + 1)) cap ≡ min (1 + n * (w + 1)) cap
body-capped zero w = rw (zero-mul (min w cap + 1), zero-mul (w + 1))
body-capped (suc n) w =
    dite (dec_le w cap)
    (λ h. rw (min-eq_left h))
    (λ h. rw (suc-mul n (min w cap + 1), suc-mul n (w + 1)) (omega arith))

pub passes-capped : (n w : ℕ) → min (1 + min n cap * (w + 1)) cap ≡ min (1 + n * (w + 1)) cap
passes-capped n w =
    dite (dec_le n cap)
    (λ h. rw (min-eq_left h))
    (λ h. let g : n ≤ n * (w + 1) = le-mul_of_pos_right n (omega arith) in rw (min-eq_right {n = cap} {m = n} (omega arith)) (omega arith))

-- no steps ahead, and one part of the steps ahead of the other
none_ahead : (x : Walked) → capped (plus 0 (capped x)) ≡ capped x
unfolding capped plus
none_ahead (Ok a) = ap (Done a.next) (omega arith)
none_ahead (Bad k) = refl

both-ahead : (s t : ℕ) (x : Walked) → capped (plus s (capped (plus t x))) ≡ capped (plus (min (s + t) cap) x)
unfolding capped plus
both-ahead s t (Ok a) = ap (Done a.next) (omega arith)
both-ahead s t (Bad k) = refl

loop-capped : (n : ℕ) (x : Walked) → capped (loop_of n (capped x)) ≡ capped (loop_of n x)
unfolding capped loop_of
loop-capped n (Ok a) = ap (Done (a.next + 1)) (body-capped n a.steps)
loop-capped n (Bad k) = refl

-- what comes after a loop, where the loop was walked
follow-done : (n : ℕ) (x : Walked) (m w : ℕ) (after : ℕ → Walked) (r : Walked) → Done m w ≡ capped (loop_of n x) → r ≡ capped (after m) → capped (plus w r) ≡ capped (follow n x after)
unfolding capped loop_of follow
follow-done n (Ok a2) m w after r p q =
    let z = done-parts m w (a2.next + 1) (min (1 + n * (a2.steps + 1)) cap) p in
    let a : m ≡ a2.next + 1 = z.0 in
    let b : w ≡ min (1 + n * (a2.steps + 1)) cap = z.1 in
    rw (q, a, b) (plus-capped (min (1 + n * (a2.steps + 1)) cap) (after (a2.next + 1)) ∙ capped-plus (1 + n * (a2.steps + 1)) (after (a2.next + 1)))
follow-done n (Bad k) m w after r p q = let z : ◌≡◌ {A = ℕ} 0 1 = cc in absurd (omega arith)

follow-bad : (n : ℕ) (x : Walked) (k : ℕ) (after : ℕ → Walked) → Bad k ≡ capped (loop_of n x) → Bad k ≡ capped (follow n x after)
unfolding capped loop_of follow
follow-bad n (Ok a) k after p = let z : ◌≡◌ {A = ℕ} 0 1 = cc in absurd (omega arith)
follow-bad n (Bad k') k after p = p

-- How far what was walked reaches

small-capped : (count k d : ℕ) (x : Walked) → count ≤ 2000 → Ended count k d x → Small (capped x)
unfolding Ended Small capped
small-capped count k d (Ok a) h e = (omega arith, omega arith)
small-capped count k d (Bad b) h e = tt

-- a loop ends before the last record, after its first
after-capped : (count k d n m w : ℕ) (x : Walked) → 0 < d → Ended count k d x → Done m w ≡ capped (loop_of n x) → (k < m) × ((m < count) × (w ≤ cap))
unfolding Ended capped loop_of
after-capped count k d n m w (Ok a2) h e p =
    let z = done-parts m w (a2.next + 1) (min (1 + n * (a2.steps + 1)) cap) p in
    let a : m ≡ a2.next + 1 = z.0 in
    let b : w ≡ min (1 + n * (a2.steps + 1)) cap = z.1 in
    let q : a2.next + 1 < count = e.1.1 h in
    (omega arith, (omega arith, omega arith))
after-capped count k d n m w (Bad b) h e p = let z : ◌≡◌ {A = ℕ} 0 1 = cc in absurd (omega arith)

module _ (code : Controls) (count k d : ℕ) (inside : k < count) where
  pub go-in : (s : ℕ) → act_of code count k d ≡ Go s → (k + 1 < count) × (s ≤ cap)
  unfolding Fit
  go-in s e = rw e at (fit code count k d inside)

  pub enter-in : (n : ℕ) → act_of code count k d ≡ Enter n → (k + 1 < count) × (d < 8)
  unfolding Fit
  enter-in n e = rw e at (fit code count k d inside)

  pub no_finish : act_of code count k d ≡ Finish → 0 < d → ⊥
  unfolding Fit
  no_finish e h = let g : d ≡ 0 = rw e at (fit code count k d inside) in omega arith

  pub small : (r : Walked) → count ≤ 2000 → IsSequence code count k d r → Small r
  unfolding IsSequence
  small r h s =
      rw (s (count - k) (le_refl (count - k))) (small-capped count k d (sequence_of code count (count - k) k d) h (ended code count (count - k) k d inside))

  pub after-in : (n m w : ℕ) → 0 < d → IsLoop code count k d n (Done m w) → (k < m) × ((m < count) × (w ≤ cap))
  unfolding IsLoop
  after-in n m w h l =
      after-capped count k d n m w (sequence_of code count (count - k) k d) h (ended code count (count - k) k d inside) (l (count - k) (le_refl (count - k)))

  -- One record of a sequence, by its act

  pub go : (s : ℕ) (r : Walked) → act_of code count k d ≡ Go s → IsSequence code count (k + 1) d r → IsSequence code count k d (capped (plus s r))
  unfolding IsSequence sequence_of by_act
  go s r e q zero h = absurd (omega arith)
  go s r e q (suc n) h = rw (e, q n (omega arith)) (plus-capped s (sequence_of code count n (k + 1) d))

  pub enter : (p m w : ℕ) (r : Walked) → act_of code count k d ≡ Enter p → k < m → IsLoop code count (k + 1) (d + 1) p (Done m w) → IsSequence code count m d r → IsSequence code count k d (capped (plus w r))
  unfolding IsSequence IsLoop sequence_of by_act
  enter p m w r e g l s zero h = absurd (omega arith)
  enter p m w r e g l s (suc n) h =
      rw e (follow-done p (sequence_of code count n (k + 1) (d + 1)) m w (λ j. sequence_of code count n j d) r (l n (omega arith)) (s n (omega arith)))

  pub enter-bad : (p b : ℕ) → act_of code count k d ≡ Enter p → IsLoop code count (k + 1) (d + 1) p (Bad b) → IsSequence code count k d (Bad b)
  unfolding IsSequence IsLoop sequence_of by_act
  enter-bad p b e l zero h = absurd (omega arith)
  enter-bad p b e l (suc n) h =
      rw e (follow-bad p (sequence_of code count n (k + 1) (d + 1)) b (λ j. sequence_of code count n j d) (l n (omega arith)))

  -- the rest of the sequence is bad, and so is the sequence
  pub go-bad : (s b : ℕ) → act_of code count k d ≡ Go s → IsSequence code count (k + 1) d (Bad b) → IsSequence code count k d (Bad b)
  unfolding capped plus
  go-bad s b e q = go s (Bad b) e q

  pub after-bad : (p m w b : ℕ) → act_of code count k d ≡ Enter p → k < m → IsLoop code count (k + 1) (d + 1) p (Done m w) → IsSequence code count m d (Bad b) → IsSequence code count k d (Bad b)
  unfolding capped plus
  after-bad p m w b e g l q = enter p m w (Bad b) e g l q

  pub leave : act_of code count k d ≡ Leave → IsSequence code count k d (Done k 0)
  unfolding IsSequence sequence_of by_act capped
  leave e zero h = absurd (omega arith)
  leave e (suc n) h = rw e

  pub finish : act_of code count k d ≡ Finish → IsSequence code count k d (Done (k + 1) 1)
  unfolding IsSequence sequence_of by_act capped
  finish e zero h = absurd (omega arith)
  finish e (suc n) h = rw e

  pub refuse : act_of code count k d ≡ Refuse → IsSequence code count k d (Bad k)
  unfolding IsSequence sequence_of by_act capped
  refuse e zero h = absurd (omega arith)
  refuse e (suc n) h = rw e

  -- The loop around a sequence

  pub looped : (p : ℕ) (r : Walked) → IsSequence code count k d r → IsLoop code count k d p (capped (loop_of p r))
  unfolding IsSequence IsLoop
  looped p r s n h = rw (s n h) (loop-capped p (sequence_of code count n k d))

  pub looped-bad : (p b : ℕ) → IsSequence code count k d (Bad b) → IsLoop code count k d p (Bad b)
  unfolding IsSequence IsLoop capped loop_of
  looped-bad p b s n h = rw (← s n h) at (loop-capped p (sequence_of code count n k d))

-- The walk from record `at` on has come to record k with s steps: what is to come from there makes the whole
unfoldable pub Ahead : Controls → ℕ → ℕ → ℕ → ℕ → ℕ → Type 0
Ahead code count d at k s =
    (r : Walked) → IsSequence code count k d r → IsSequence code count at d (capped (plus s r))

pub ahead_none : (code : Controls) (count d at : ℕ) → Ahead code count d at at 0
unfolding Ahead IsSequence
ahead_none code count d at r q n h = rw (q n h) (none_ahead (sequence_of code count n at d))

module _ (code : Controls) (count k d : ℕ) (inside : k < count) (at s : ℕ) (so : Ahead code count d at k s) where
  more : (t j : ℕ) → ((r : Walked) → IsSequence code count j d r → IsSequence code count k d (capped (plus t r))) → Ahead code count d at j (min (s + t) cap)
  unfolding Ahead
  more t j step r q = rw (← both-ahead s t r) (so (capped (plus t r)) (step r q))

  pub ahead-go : (t : ℕ) → act_of code count k d ≡ Go t → Ahead code count d at (k + 1) (min (s + t) cap)
  ahead-go t e = more t (k + 1) (λ r q. go code count k d inside t r e q)

  pub ahead_enter : (p m w : ℕ) → act_of code count k d ≡ Enter p → k < m → IsLoop code count (k + 1) (d + 1) p (Done m w) → Ahead code count d at m (min (s + w) cap)
  ahead_enter p m w e g l = more w m (λ r q. enter code count k d inside p m w r e g l q)

  bad-at : (b : ℕ) → IsSequence code count k d (Bad b) → IsSequence code count at d (Bad b)
  unfolding Ahead capped plus
  bad-at b q = so (Bad b) q

  done_at : (m w : ℕ) → IsSequence code count k d (Done m w) → IsSequence code count at d (Done m (min (s + w) cap))
  unfolding Ahead capped plus
  done_at m w q = so (Done m w) q

  pub ends-bad : (p b : ℕ) → act_of code count k d ≡ Enter p → IsLoop code count (k + 1) (d + 1) p (Bad b) → IsSequence code count at d (Bad b)
  ends-bad p b e l = bad-at b (enter-bad code count k d inside p b e l)

  pub ends-leave : s ≤ cap → act_of code count k d ≡ Leave → IsSequence code count at d (Done k s)
  ends-leave h e =
      let g : min (s + 0) cap ≡ s = omega arith in
      rw g at (done_at k 0 (leave code count k d inside e))

  pub ends-finish : act_of code count k d ≡ Finish → IsSequence code count at d (Done (k + 1) (min (s + 1) cap))
  ends-finish e = done_at (k + 1) 1 (finish code count k d inside e)

  pub ends-refuse : act_of code count k d ≡ Refuse → IsSequence code count at d (Bad k)
  ends-refuse e = bad-at k (refuse code count k d inside e)
