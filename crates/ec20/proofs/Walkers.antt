-- How the code finds 6, 7 and W (specs/Walkers.antt) finds what specs/Control.antt and specs/Loops.antt say. Assumes nothing.
use Prim.Native.Nat.{ℕ, zero, suc, ◌+◌, ◌-◌, ◌*◌, ◌≤◌, ◌<◌}
use mathlib.Core.Bool.{Bool, true, false, not, ◌&&◌}
use mathlib.Core.List.{List, [], ◌∷◌}
use mathlib.Core.Path.{◌≡◌, refl, sym, ap, subst, ◌∙◌}
use native.Mathlib.Omega.{arith}
use native.Mathlib.Numerals.{add-one}
use lib.Dec.{eqb, ltb, leb}
use borrow.Author.Tests.{ltb-true, ltb-false, eqb-true, eqb-false, eq-eqb, ne_eqb, le-leb, lt-leb}
use Rattle.std.specs.Prelude.{Err, Ok}
use Rattle.ec20.proofs.NoFault.{then-fine}
use Rattle.ec20.proofs.Tests.{picked}
use Rattle.ec20.specs.Basics.{pick, then}
use Rattle.ec20.specs.Check.{judge_program, w_of}
use Rattle.ec20.specs.Code.{Program}
use Rattle.ec20.specs.Control.{Controls, controls_of, open_after, closes, search_body}
use Rattle.ec20.specs.Devices.{deepest}
use Rattle.ec20.specs.Labels.{first_unlabelled}
use Rattle.ec20.specs.Loops.{breaks_inside, breaks_last, breaks, unsound_from, first_unsound, Body, body, counting, closing, bodies_after, bodies_at}
use Rattle.ec20.specs.Loops.{w_in, too_long}
use Rattle.ec20.specs.Rung.{first_broken}
use Rattle.ec20.specs.Walkers.{last_act, mid_act, act_of, plus, follow, by_act, sequence_of, walk_of, unsound, steps_walked, walked}
use Rattle.ec20.specs.Walkers.{shift_of, turn_of, by_turn}
use Rattle.ec20.specs.declared.Act.{Act}
use Rattle.ec20.specs.declared.Act.TheVariants.{Go, Enter, Leave, Finish, Refuse}
use Rattle.ec20.specs.declared.Control.{Control}
use Rattle.ec20.specs.declared.Control.TheVariants.{Plain, Opens, Closes, Jumps, Marks, Ends}
use Rattle.ec20.specs.Found.{Found}
use Rattle.ec20.specs.Found.{At, Nowhere}
use Rattle.ec20.specs.Judged.{Judged}
use Rattle.ec20.specs.Judged.{Fine, Fault}
use Rattle.ec20.specs.declared.Turn.{Turn}
use Rattle.ec20.specs.declared.Turn.TheVariants.{Hit, Stop, On}
use Rattle.ec20.specs.Walked.{Walked}
use Rattle.ec20.specs.Walked.{Done, Bad}

-- ---- a search, by turns

-- what is looked for is the one if it stands directly in the body; else the record moves the search on
turned : (direct wanted : Bool) (t : Turn) (k : ℕ) (more : ℕ → Found)
    → by_turn (pick direct (pick wanted Hit t) t) k more ≡ pick (direct && wanted) (At k) (by_turn t k more)
unfolding by_turn
turned true true t k more = refl
turned true false t k more = refl
turned false wanted t k more = refl

-- a record that closes no loop does not end the search
goes_on : (direct : Bool) (x : Found) → x ≡ pick (direct && false) Nowhere x
goes_on true x = refl
goes_on false x = refl

-- NEXT ends it, directly in the body
ends-body : (direct : Bool) (e k : ℕ) (more : ℕ → Found) → by_turn (pick direct Stop (On e)) k more ≡ pick (direct && true) Nowhere (more e)
unfolding by_turn
ends-body true e k more = refl
ends-body false e k more = refl

shifted : (i : Control) (d k : ℕ) (more : ℕ → Found) → by_turn (shift_of i d) k more ≡ pick (eqb d 0 && closes i) Nowhere (more (open_after i d))
unfolding by_turn shift_of closes open_after
shifted Plain d k more = goes_on (eqb d 0) (more d)
shifted (Opens n) d k more = goes_on (eqb d 0) (more (d + 1))
shifted Closes d k more = ends-body (eqb d 0) (d - 1) k more
shifted (Jumps l) d k more = goes_on (eqb d 0) (more d)
shifted (Marks l) d k more = goes_on (eqb d 0) (more d)
shifted Ends d k more = goes_on (eqb d 0) (more d)

-- one turn of a search in one loop body
pub search-turn : (code : Controls) (want : Control → Bool) (d k n : ℕ)
    → search_body code want d k (suc n) ≡ by_turn (turn_of (want (code k)) (code k) d) k (λ j. search_body code want j (k + 1) n)
unfolding search_body turn_of
search-turn code want d k n =
    let more : ℕ → Found = λ j. search_body code want j (k + 1) n in
    sym
    (turned (eqb d 0) (want (code k)) (shift_of (code k) d) k more
    ∙ ap (λ (x : Found). pick (eqb d 0 && want (code k)) (At k) x) (shifted (code k) d k more))

-- ---- the bodies that are open

count_none : (s : List Body) → s ≡ counting 0 s
unfolding counting
count_none [] = refl
count_none (b ∷ outer) = let e : b.steps + 0 ≡ b.steps = omega arith in rw e refl

count-both : (a w : ℕ) (s : List Body) → counting w (counting a s) ≡ counting (a + w) s
unfolding counting
count-both a w [] = refl
count-both a w (b ∷ outer) = let e : b.steps + a + w ≡ b.steps + (a + w) = omega arith in rw e refl

-- a loop of n passes whose body came to w
count-loop : (n w : ℕ) (s : List Body) → closing (counting w (body n 0 ∷ s)) ≡ counting (1 + n * (w + 1)) s
unfolding counting closing
count-loop n w s = let e : 0 + w ≡ w = omega arith in rw e refl

-- ---- what a record asks, and whether it breaks the structure

-- what is known of a record by what it asks of the walkers; t tells whether it breaks the structure
abbrev Asked : ℕ → ℕ → Control → ℕ → Bool → Act → Type 0
Asked count k i d t (Go s) = (k + 1 < count) × (open_after i d ≡ d) × ((b : List Body) → bodies_after i b ≡ counting s b) × (t ≡ false)
Asked count k i d t (Enter n) = (k + 1 < count) × (i ≡ Opens n) × (t ≡ false)
Asked count k i d t Leave = (k + 1 < count) × (i ≡ Closes) × (0 < d) × (t ≡ false)
Asked count k i d t Finish = (k + 1 ≡ count) × (i ≡ Ends) × (d ≡ 0) × (t ≡ false)
Asked count k i d t Refuse = t ≡ true

asked-last : (count k : ℕ) (i : Control) (d : ℕ) → k + 1 ≡ count → Asked count k i d (breaks_last i d) (last_act i d)
unfolding last_act breaks_last
asked-last count k Plain d h = refl
asked-last count k (Opens n) d h = refl
asked-last count k Closes d h = refl
asked-last count k (Jumps l) d h = refl
asked-last count k (Marks l) d h = refl
asked-last count k Ends d h =
    picked (Asked count k Ends d (not (eqb d 0))) (eqb d 0) Finish Refuse
    (λ z. (h, refl, eqb-true d 0 z, rw z refl))
    (λ z. rw z refl)

asked-mid : (count k : ℕ) (i : Control) (d : ℕ) → k + 1 < count → Asked count k i d (breaks_inside i d) (mid_act i d)
unfolding mid_act breaks_inside open_after bodies_after
asked-mid count k Plain d h = (h, refl, λ b. refl, refl)
asked-mid count k (Opens n) d h =
    picked (Asked count k (Opens n) d (leb deepest d)) (ltb d deepest) (Enter n) Refuse
    (λ z. (h, refl, lt-leb deepest d (ltb-true d deepest z)))
    (λ z. le-leb deepest d (ltb-false d deepest z))
asked-mid count k Closes d h =
    picked (Asked count k Closes d (eqb d 0)) (ltb 0 d) Leave Refuse
    (λ z. let g : 0 < d = ltb-true 0 d z in (h, refl, g, ne_eqb d 0 (λ (e : d ≡ 0). omega arith)))
    (λ z. let g : d ≤ 0 = ltb-false 0 d z in eq-eqb d 0 (omega arith))
asked-mid count k (Jumps l) d h = (h, refl, λ b. refl, refl)
asked-mid count k (Marks l) d h = (h, refl, λ b. refl, refl)
asked-mid count k Ends d h = refl

asked-either : (count k : ℕ) (i : Control) (d : ℕ) → k < count → (z : Bool) → eqb (k + 1) count ≡ z
    → Asked count k i d (pick z (breaks_last i d) (breaks_inside i d)) (pick z (last_act i d) (mid_act i d))
asked-either count k i d h true e = asked-last count k i d (eqb-true (k + 1) count e)
asked-either count k i d h false e = let g : k + 1 ≡ count → ⊥ = eqb-false (k + 1) count e in asked-mid count k i d (omega arith)

-- ---- the walk

module _ (code : Controls) (count : ℕ) where
  asked : (k d : ℕ) → k < count → Asked count k (code k) d (breaks code count d k) (act_of code count k d)
  unfolding breaks act_of
  asked k d h = asked-either count k (code k) d h (eqb (k + 1) count) refl

  -- 6 of the records from k on, before which d loops are open
  abbrev Rest : ℕ → ℕ → Judged
  Rest d k = unsound_from code count d k (count - k)

  -- one record of it
  rest-step : (d k : ℕ) → k < count → Rest d k ≡ pick (breaks code count d k) (Fault 6 k) (Rest (open_after (code k) d) (k + 1))
  unfolding unsound_from
  rest-step d k h = let e : count - k ≡ suc (count - (k + 1)) = omega arith in rw e refl

  rest-kept : (d e k : ℕ) → k < count → breaks code count d k ≡ false → open_after (code k) d ≡ e → Rest d k ≡ Rest e (k + 1)
  rest-kept d e k h f o = let g = rest-step d k h in subst (λ (j : ℕ). Rest d k ≡ Rest j (k + 1)) o (g ∙ rw f refl)

  rest-broken : (d k : ℕ) → k < count → breaks code count d k ≡ true → Rest d k ≡ Fault 6 k
  rest-broken d k h f = let g = rest-step d k h in g ∙ rw f refl

  rest-none : (d k : ℕ) → k ≡ count → Rest d k ≡ Fine
  unfolding unsound_from
  rest-none d k h = let e : count - k ≡ 0 = omega arith in rw e refl

  bodies-next : (k : ℕ) → bodies_at code (k + 1) ≡ bodies_after (code k) (bodies_at code k)
  unfolding bodies_at
  bodies-next k = rw add-one refl

  -- What the walk of a sequence says, from record k on with d loops open: the first record that breaks the structure; or, at the top, that none
  -- does, and what the records count; or, in a loop, that none does up to its NEXT, and what the records before that count.
  Says : ℕ → ℕ → Walked → Type 0
  Says k d (Bad b) = Rest d k ≡ Fault 6 b
  Says k zero (Ok a) = (Rest 0 k ≡ Fine) × (bodies_at code count ≡ counting a.steps (bodies_at code k))
  Says k (suc d) (Ok a) =
      (k ≤ a.next) × (a.next + 1 < count) × (code a.next ≡ Closes) × (Rest (suc d) k ≡ Rest d (a.next + 1)) × (bodies_at code a.next ≡ counting a.steps (bodies_at code k))

  -- the same of a longer sequence, whose first records break nothing and count v
  longer : (a k d v : ℕ) (x : Walked) → a ≤ k → Rest d a ≡ Rest d k → bodies_at code k ≡ counting v (bodies_at code a) → Says k d x
      → Says a d (plus v x)
  unfolding Says plus
  longer a k d v (Bad b) h f g s = f ∙ s
  longer a k zero v (Ok a2) h f g s = (f ∙ s.0, s.1 ∙ (ap (counting a2.steps) g ∙ count-both v a2.steps (bodies_at code a)))
  longer a k (suc d) v (Ok a2) h f g s =
      (omega (arith, s.0), s.1, s.2, f ∙ s.3, s.4 ∙ (ap (counting a2.steps) g ∙ count-both v a2.steps (bodies_at code a)))

  -- the walk of what comes later is known
  abbrev Walks : ℕ → (ℕ → ℕ → Walked) → Type 0
  Walks k walk = (m j : ℕ) → k < m → m < count → Says m j (walk m j)

  after-loop : (k d n : ℕ) (walk : ℕ → ℕ → Walked) → Walks k walk → Rest d k ≡ Rest (suc d) (k + 1)
      → bodies_at code (k + 1) ≡ body n 0 ∷ bodies_at code k → (x : Walked) → Says (k + 1) (suc d) x → Says k d (follow n x (λ m. walk m d))
  unfolding Says follow bodies_after
  after-loop k d n walk ih f g (Bad b) s = f ∙ s
  after-loop k d n walk ih f g (Ok a) s =
      let h : k + 1 ≤ a.next = s.0 in
      let e : bodies_at code a.next ≡ counting a.steps (body n 0 ∷ bodies_at code k) = s.4 ∙ ap (counting a.steps) g in
      let c : bodies_after (code a.next) (bodies_at code a.next) ≡ closing (counting a.steps (body n 0 ∷ bodies_at code k)) = rw (s.2, e) refl in
      let b : bodies_at code (a.next + 1) ≡ counting (1 + n * (a.steps + 1)) (bodies_at code k) = bodies-next a.next ∙ (c ∙ count-loop n a.steps (bodies_at code k)) in
      let r : Says (a.next + 1) d (walk (a.next + 1) d) = ih (a.next + 1) d (omega arith) s.1 in
      longer k (a.next + 1) d (1 + n * (a.steps + 1)) (walk (a.next + 1) d) (omega arith) (f ∙ s.3) b r

  by-act : (k d : ℕ) (walk : ℕ → ℕ → Walked) → k < count → Walks k walk → (a : Act) → Asked count k (code k) d (breaks code count d k) a
      → Says k d (by_act a k d walk)
  unfolding by_act Says open_after bodies_after
  by-act k d walk h ih (Go s) a =
      let r : Says (k + 1) d (walk (k + 1) d) = ih (k + 1) d (omega arith) a.0 in
      longer k (k + 1) d s (walk (k + 1) d) (omega arith) (rest-kept d d k h a.3 a.1) (bodies-next k ∙ a.2 (bodies_at code k)) r
  by-act k d walk h ih (Enter n) a =
      let r : Says (k + 1) (d + 1) (walk (k + 1) (d + 1)) = ih (k + 1) (d + 1) (omega arith) a.0 in
      let o : open_after (code k) d ≡ suc d = rw a.1 (omega arith) in
      let b : bodies_after (code k) (bodies_at code k) ≡ body n 0 ∷ bodies_at code k = rw a.1 refl in
      after-loop k d n walk ih (rest-kept d (suc d) k h a.2 o) (bodies-next k ∙ b) (walk (k + 1) (d + 1))
      (subst (λ (j : ℕ). Says (k + 1) j (walk (k + 1) (d + 1))) (add-one d) r)
  by-act k zero walk h ih Leave a = absurd (let z : 0 < 0 = a.2 in omega arith)
  by-act k (suc d) walk h ih Leave a =
      let o : open_after (code k) (suc d) ≡ d = rw a.1 (omega arith) in
      (omega arith, a.0, a.1, rest-kept (suc d) d k h a.3 o, count_none (bodies_at code k))
  by-act k zero walk h ih Finish a =
      let g : k + 1 ≡ count = a.0 in
      let o : open_after (code k) 0 ≡ 0 = rw a.1 refl in
      let b : bodies_after (code k) (bodies_at code k) ≡ counting 1 (bodies_at code k) = rw a.1 refl in
      (rest-kept 0 0 k h a.3 o ∙ rest-none 0 (k + 1) g, subst (λ (j : ℕ). bodies_at code j ≡ counting 1 (bodies_at code k)) g (bodies-next k ∙ b))
  by-act k (suc d) walk h ih Finish a = absurd (let z : suc d ≡ 0 = a.2 in omega arith)
  by-act k d walk h ih Refuse a = rest-broken d k h a

  -- the records that are left are enough
  walks : (n k d : ℕ) → k < count → count ≤ k + n → Says k d (sequence_of code count n k d)
  unfolding sequence_of
  walks zero k d h g = absurd (omega arith)
  walks (suc n) k d h g = by-act k d (sequence_of code count n) h (λ m j p q. walks n m j q (omega arith)) (act_of code count k d) (asked k d h)

  whole-walk : 0 < count → Says 0 0 (walk_of code count)
  whole-walk h = walks count 0 0 h (omega arith)

  whole-rest : Rest 0 0 ≡ first_unsound code count
  whole-rest = let e : count - 0 ≡ count = omega arith in rw e refl

  says-unsound : (x : Walked) → Says 0 0 x → unsound x ≡ first_unsound code count
  unfolding Says
  says-unsound (Bad b) s = sym s ∙ whole-rest
  says-unsound (Ok a) s = sym s.0 ∙ whole-rest

  says-steps : (x : Walked) → Says 0 0 x → first_unsound code count ≡ Fine → steps_walked x ≡ w_in code count
  unfolding Says w_in bodies_at counting
  says-steps (Bad b) s f =
      let e : Fault 6 b ≡ Fine = sym s ∙ (whole-rest ∙ f) in
      let z : ◌≡◌ {A = ℕ} 0 1 = cc in
      absurd (omega arith)
  says-steps (Ok a) s f = let e : 0 + a.steps ≡ a.steps = omega arith in rw s.1 (sym e)

  -- 6, as the walkers find it
  pub walked-unsound : 0 < count → unsound (walk_of code count) ≡ first_unsound code count
  walked-unsound h = says-unsound (walk_of code count) (whole-walk h)

  -- and W, of a program whose structure is sound
  pub walked-steps : 0 < count → first_unsound code count ≡ Fine → steps_walked (walk_of code count) ≡ w_in code count
  walked-steps h f = says-steps (walk_of code count) (whole-walk h) f

-- ---- the check, by the walkers

-- W matters only where nothing is refused before it
same-steps : (a b : Judged) (w v : ℕ) → (a ≡ Fine → w ≡ v) → then a (then b (too_long w)) ≡ then a (then b (too_long v))
same-steps Fine b w v h = ap (λ (x : ℕ). then b (too_long x)) (h refl)
same-steps (Err r) b w v h = refl

module _ (p : Program) (some : 0 < p.count) where
  -- 5 to 8
  pub judged-by-walkers : judge_program p
      ≡ then (first_broken p) (then (unsound (walked p)) (then (first_unlabelled (controls_of p) p.count) (too_long (steps_walked (walked p)))))
  unfolding judge_program
  judged-by-walkers =
      let code : Controls = controls_of p in
      let w : first_unsound code p.count ≡ Fine → w_of p ≡ steps_walked (walked p) = λ f. sym (walked-steps code p.count some f) in
      let g = same-steps (first_unsound code p.count) (first_unlabelled code p.count) (w_of p) (steps_walked (walked p)) w in
      rw (walked-unsound code p.count some) (ap (then (first_broken p)) g)

  -- W that an accepted program is told with
  pub w-by-walkers : judge_program p ≡ Fine → w_of p ≡ steps_walked (walked p)
  unfolding judge_program
  w-by-walkers f =
      let code : Controls = controls_of p in
      let g = then-fine (first_broken p) _ f in
      let u = then-fine (first_unsound code p.count) _ g.1 in
      sym (walked-steps code p.count some u.0)
