-- The searches along a row: what is passed over, and what is found.
use Prim.Native.Nat.{ℕ, suc, ◌+◌, ◌-◌, ◌<◌, ◌≤◌}
use mathlib.Core.Bool.{Bool, true, false}
use mathlib.Core.Path.{◌≡◌, refl, sym, ap, subst, ◌∙◌}
use native.Mathlib.Omega.{arith}
use native.Mathlib.Numerals.{add-one}
use Rattle.ec20.specs.declared.Turn.TheVariants.{On}
use lib.Dec.{eqb}
use borrow.Author.Tests.{ne_eqb}
use Rattle.ec20.specs.declared.Control.{Control}
use Rattle.ec20.specs.declared.Control.TheVariants.{Plain, Opens, Closes, Jumps, Marks, Ends}
use Rattle.ec20.specs.Found.{Found}
use Rattle.ec20.specs.Found.{At, Nowhere}
use Rattle.ec20.specs.Control.{Controls, closes, marks, search_body, found_in_body}
use Rattle.ec20.specs.Walkers.{shift_of, turn_of, by_turn}
use Rattle.ec20.proofs.Walkers.{search-turn}
use Rattle.bound.proofs.Rows.{Steady, Seq, empty, plain, loop, low}

deep : (d : ℕ) → eqb (suc d) 0 ≡ false
deep d = ne_eqb (suc d) 0 (omega arith)

module _ (code : Controls) (count : ℕ) (want : Control → Bool) where
  -- one record of the search
  find-step : (k d : ℕ) → k < count
      → found_in_body code count want d k ≡ by_turn (turn_of (want (code k)) (code k) d) k (λ j. found_in_body code count want j (k + 1))
  unfolding search_body
  find-step k d h = let e : count - k ≡ suc (count - (k + 1)) = omega arith in
      ap (λ (n : ℕ). search_body code want d k n) e ∙ search-turn code want d k (count - (k + 1))

  steady-shift : (i : Control) (d : ℕ) → Steady i → shift_of i d ≡ On d
  unfolding shift_of
  steady-shift Plain d o = refl
  steady-shift (Opens n) d o = absurd o
  steady-shift Closes d o = absurd o
  steady-shift (Jumps l) d o = refl
  steady-shift (Marks l) d o = refl
  steady-shift Ends d o = absurd o

  -- in a loop inside the body searched
  for-deeper : (k d n : ℕ) → k < count → code k ≡ Opens n → found_in_body code count want (suc d) k ≡ found_in_body code count want (suc (suc d)) (k + 1)
  unfolding turn_of shift_of by_turn
  for-deeper k d n h q = find-step k (suc d) h ∙ rw (q, add-one, deep d)

  next-deeper : (k d : ℕ) → k < count → code k ≡ Closes → found_in_body code count want (suc d) k ≡ found_in_body code count want d (k + 1)
  unfolding turn_of shift_of by_turn
  next-deeper k d h q = let e : suc d - 1 ≡ d = omega arith in find-step k (suc d) h ∙ rw (q, e, deep d)

  steady-deeper : (k d : ℕ) → k < count → Steady (code k) → found_in_body code count want (suc d) k ≡ found_in_body code count want (suc d) (k + 1)
  unfolding turn_of by_turn
  steady-deeper k d h o = find-step k (suc d) h ∙ rw (steady-shift (code k) (suc d) o, deep d)

  -- a row inside a loop is passed over
  pub pass : {d k e w : ℕ} (j : ℕ) → Seq code d k e w → e < count → found_in_body code count want (suc j) k ≡ found_in_body code count want (suc j) e
  pass j empty h = refl
  pass j (plain {k = k} {e = e} o t) h =
      let l : k + 1 ≤ e = low t in
      steady-deeper k j (omega arith) o ∙ pass j t h
  pass j (loop {k = k} {b = b} {e = e} {n = n} q x r s t) h =
      let g : k + 1 ≤ b = low s in
      let l : b + 1 ≤ e = low t in
      for-deeper k j n (omega arith) q ∙ pass (suc j) s (omega arith) ∙ next-deeper b (suc j) (omega arith) x ∙ pass j t h

  -- a loop at the level searched is passed over
  pub over : (k b n : ℕ) {d v : ℕ} → code k ≡ Opens n → want (Opens n) ≡ false → code b ≡ Closes → Seq code d (k + 1) b v → b < count
      → found_in_body code count want 0 k ≡ found_in_body code count want 0 (b + 1)
  unfolding turn_of shift_of by_turn
  over k b n q f x s h =
      let g : k + 1 ≤ b = low s in
      let u : found_in_body code count want 0 k ≡ found_in_body code count want 1 (k + 1) = find-step k 0 (omega arith) ∙ rw (q, f) in
      u ∙ pass 0 s h ∙ next-deeper b 0 h x

  -- a record at the level searched that is not wanted
  pub unwanted : (k : ℕ) → k < count → want (code k) ≡ false → Steady (code k)
      → found_in_body code count want 0 k ≡ found_in_body code count want 0 (k + 1)
  unfolding turn_of by_turn
  unwanted k h f o = find-step k 0 h ∙ rw (f, steady-shift (code k) 0 o)

  pub wanted : (k : ℕ) → k < count → want (code k) ≡ true → found_in_body code count want 0 k ≡ At k
  unfolding turn_of by_turn
  wanted k h f = find-step k 0 h ∙ rw f

  -- at the end of a row nothing is found, where its last record is not wanted
  pub at_next : (e : ℕ) → e < count → code e ≡ Closes → want Closes ≡ false → found_in_body code count want 0 e ≡ Nowhere
  unfolding turn_of shift_of by_turn
  at_next e h q f = find-step e 0 h ∙ rw (q, f)

  pub at_last : (e : ℕ) → e + 1 ≡ count → code e ≡ Ends → want Ends ≡ false → found_in_body code count want 0 e ≡ Nowhere
  unfolding turn_of shift_of by_turn search_body
  at_last e h q f = find-step e 0 (omega arith) ∙ rw (q, f) (let z : count - (e + 1) ≡ 0 = omega arith in rw z)

steady-next : (i : Control) → Steady i → closes i ≡ false
unfolding closes
steady-next Plain o = refl
steady-next (Opens n) o = absurd o
steady-next Closes o = absurd o
steady-next (Jumps l) o = refl
steady-next (Marks l) o = refl
steady-next Ends o = absurd o

none-at : {t : ℕ} → ◌≡◌ {A = Found} Nowhere (At t) → ⊥
none-at e = let z : ◌≡◌ {A = ℕ} 0 1 = cc in omega arith

same_at : {t u : ℕ} → ◌≡◌ {A = Found} (At t) (At u) → t ≡ u
same_at e = cc

-- record t stands at a place of the row from k to e, and the rest of the row from there costs at most w
pub record Within (code : Controls) (d k e w t : ℕ) : Type 0 where
  pub cost : ℕ
  pub rest : Seq code d t e cost
  pub less : cost ≤ w
  pub past : k ≤ t
  pub until : t ≤ e

module _ (code : Controls) (count : ℕ) where
  -- a FOR finds its NEXT
  pub to-next : {d k e w : ℕ} → Seq code d k e w → code e ≡ Closes → e < count → found_in_body code count closes 0 k ≡ At e
  unfolding closes
  to-next {e = e} empty q h = wanted code count closes e h (rw q)
  to-next (plain {k = k} {e = e} o t) q h =
      let l : k + 1 ≤ e = low t in
      unwanted code count closes k (omega arith) (steady-next (code k) o) o ∙ to-next t q h
  to-next (loop {k = k} {b = b} {e = e} {n = n} f x r s t) q h =
      let l : b + 1 ≤ e = low t in
      over code count closes k b n f refl x s (omega arith) ∙ to-next t q h

  -- A label found from the start of a row stands at a place of the row, and the rest costs no more
  module _ (l : ℕ) where
    within_more : {d k k' e w w' t : ℕ} → k ≤ k' → w' ≤ w → Within code d k' e w' t → Within code d k e w t
    within_more {k = k} {k' = k'} {w = w} {w' = w'} {t = t} g h r =
        let a : r.cost ≤ w' = r.less in
        let b : k' ≤ t = r.past in
        record { cost = r.cost; rest = r.rest; less = omega arith; past = omega arith; until = r.until }

    pub in_row : {d k e w : ℕ} (t : ℕ) → Seq code d k e w → found_in_body code count (marks l) 0 e ≡ Nowhere → e < count
        → found_in_body code count (marks l) 0 k ≡ At t → Within code d k e w t
    unfolding marks
    in_row t empty z h f = absurd (none-at (sym z ∙ f))
    in_row {d} {k} {e} t (plain {w = w} o s) z h f = by-want (marks l (code k)) refl (λ g. in_row t s z h g)
      where
        inside : k < count
        inside = let a : k + 1 ≤ e = low s in omega arith

        by-want : (b : Bool) → marks l (code k) ≡ b → (found_in_body code count (marks l) 0 (k + 1) ≡ At t → Within code d (k + 1) e w t)
            → Within code d k e (suc w) t
        by-want true g rec =
            let a : k ≡ t = same_at (sym (wanted code count (marks l) k inside g) ∙ f) in
            let c : k + 1 ≤ e = low s in
            let r : Seq code d t e (suc w) = subst (λ (j : ℕ). Seq code d j e (suc w)) a (plain o s) in
            record { cost = suc w; rest = r; less = omega arith; past = omega arith; until = omega arith }
        by-want false g rec = within_more (omega arith) (omega arith) (rec (sym (unwanted code count (marks l) k inside g o) ∙ f))
    in_row {k = k} {e = e} t (loop {b = b} {n = n} {v = v} {w = w} q x r s y) z h f =
        let a : b + 1 ≤ e = low y in
        let c : k + 1 ≤ b = low s in
        let g = sym (over code count (marks l) k b n q refl x s (omega arith)) ∙ f in
        within_more {k' = b + 1} {w' = w} (omega arith) (omega arith) (in_row t y z h g)
