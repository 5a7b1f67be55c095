-- What the check's walk says of a program: a derivation by parts.
use Prim.Native.Nat.{ℕ, zero, suc, ◌+◌, ◌*◌, ◌<◌, ◌≤◌}
use mathlib.Core.Path.{◌≡◌, refl, sym, ap, subst}
use native.Mathlib.Omega.{arith}
use native.Mathlib.Numerals.{add-one}
use lib.Dec.{eqb, ltb}
use borrow.Author.Tests.{ltb-true, eqb-true, eqb-false}
use Rattle.std.specs.Prelude.{Ok}
use Rattle.ec20.specs.declared.Control.{Control}
use Rattle.ec20.specs.declared.Control.TheVariants.{Plain, Opens, Closes, Jumps, Marks, Ends}
use Rattle.ec20.specs.declared.Act.{Act}
use Rattle.ec20.specs.declared.Act.TheVariants.{Go, Enter, Leave, Finish, Refuse}
use Rattle.ec20.specs.Walked.{Walked}
use Rattle.ec20.specs.Walked.{Done, Bad}
use Rattle.ec20.specs.Control.{Controls}
use Rattle.ec20.proofs.Parts.{done-parts}
use Rattle.ec20.proofs.Tests.{picked}
use Rattle.ec20.specs.Walkers.{last_act, mid_act, act_of, plus, follow, by_act, sequence_of}

-- a record that is no part of a loop's frame: in record order, the next one follows
abbrev pub Steady : Control → Type 0
Steady Plain = Unit
Steady (Opens n) = ⊥
Steady Closes = ⊥
Steady (Jumps l) = Unit
Steady (Marks l) = Unit
Steady Ends = ⊥

-- Seq code d k e w: from record k up to record e, which is no part of it, stands a row, d deep, that costs w where no jump is taken. A CJ
-- counts as going on in record order, and a loop 1 + n x (cost of its body + 1).
pub data Seq (code : Controls) : ℕ → ℕ → ℕ → ℕ → Type 0 where
  empty : {d k : ℕ} → Seq code d k k 0
  plain : {d k e w : ℕ} → Steady (code k) → Seq code d (k + 1) e w → Seq code d k e (suc w)
  loop : {d k b e n v w : ℕ} → code k ≡ Opens n → code b ≡ Closes → d < 8 → Seq code (suc d) (k + 1) b v → Seq code d (b + 1) e w
      → Seq code d k e (suc (n * suc v + w))

-- a row ends where it begins, or later
pub low : {code : Controls} {d k e w : ℕ} → Seq code d k e w → k ≤ e
low empty = omega arith
low (plain {k = k} {e = e} o t) = let h : k + 1 ≤ e = low t in omega arith
low (loop {k = k} {b = b} {e = e} q x r s t) = let g : k + 1 ≤ b = low s in let h : b + 1 ≤ e = low t in omega arith

-- a row that is complete: at the top it ends with END, the last record; in a loop at a NEXT
pub data Complete (code : Controls) (count : ℕ) : ℕ → ℕ → ℕ → ℕ → Type 0 where
  top : {k e u : ℕ} → Seq code 0 k e u → code e ≡ Ends → e + 1 ≡ count → Complete code count 0 k (e + 1) (suc u)
  inner : {d k e u : ℕ} → Seq code (suc d) k e u → code e ≡ Closes → e + 1 < count → Complete code count (suc d) k e u

module _ (code : Controls) (count : ℕ) where
  -- what is known of a record by what it asks
  Told : ℕ → ℕ → Act → Type 0
  Told k d (Go s) = Steady (code k) × (k + 1 < count) × (s ≡ 1)
  Told k d (Enter t) = (code k ≡ Opens t) × (d < 8) × (k + 1 < count)
  Told k d Leave = (code k ≡ Closes) × (0 < d) × (k + 1 < count)
  Told k d Finish = (code k ≡ Ends) × (d ≡ 0) × (k + 1 ≡ count)
  Told k d Refuse = Unit {0}

  told-last : (k d : ℕ) (i : Control) → code k ≡ i → k + 1 ≡ count → Told k d (last_act i d)
  unfolding Told last_act
  told-last k d Plain e h = tt
  told-last k d (Opens n) e h = tt
  told-last k d Closes e h = tt
  told-last k d (Jumps l) e h = tt
  told-last k d (Marks l) e h = tt
  told-last k d Ends e h = picked (Told k d) (eqb d 0) Finish Refuse (λ z. (e, eqb-true d 0 z, h)) (λ z. tt)

  told-mid : (k d : ℕ) (i : Control) → code k ≡ i → k + 1 < count → Told k d (mid_act i d)
  unfolding Told mid_act
  told-mid k d Plain e h = rw e (tt, h, refl)
  told-mid k d (Opens n) e h = picked (Told k d) (ltb d 8) (Enter n) Refuse (λ z. (e, ltb-true d 8 z, h)) (λ z. tt)
  told-mid k d Closes e h = picked (Told k d) (ltb 0 d) Leave Refuse (λ z. (e, ltb-true 0 d z, h)) (λ z. tt)
  told-mid k d (Jumps l) e h = rw e (tt, h, refl)
  told-mid k d (Marks l) e h = rw e (tt, h, refl)
  told-mid k d Ends e h = tt

  told : (k d : ℕ) → k < count → Told k d (act_of code count k d)
  unfolding act_of
  told k d h =
      picked (Told k d) (eqb (k + 1) count) _ _
      (λ z. told-last k d (code k) refl (eqb-true (k + 1) count z))
      (λ z. let g : k + 1 ≡ count → ⊥ = eqb-false (k + 1) count z in told-mid k d (code k) refl (omega arith))

  -- more ahead of a complete row
  complete-plain : {d k m u : ℕ} → Steady (code k) → Complete code count d (k + 1) m u → Complete code count d k m (suc u)
  complete-plain o (top r e h) = top (plain o r) e h
  complete-plain o (inner r e h) = inner (plain o r) e h

  complete-loop : {d k b n v m u : ℕ} → code k ≡ Opens n → code b ≡ Closes → d < 8 → Seq code (suc d) (k + 1) b v
      → Complete code count d (b + 1) m u
      → Complete code count d k m (suc (n * suc v + u))
  complete-loop {n = n} {v = v} q x r s (top {u = u} t e h) =
      let g : suc (suc (n * suc v + u)) ≡ suc (n * suc v + suc u) = omega arith in
      subst (Complete code count _ _ _) g (top (loop q x r s t) e h)
  complete-loop q x r s (inner t e h) = inner (loop q x r s t) e h

  plus-done : (s : ℕ) (x : Walked) {m w : ℕ} → plus s x ≡ Done m w → (u : ℕ) × (x ≡ Done m u) × (w ≡ s + u)
  unfolding plus
  plus-done s (Ok a) {m} {w} e =
      let p = done-parts a.next (s + a.steps) m w e in
      (a.steps, ap (λ (j : ℕ). Done j a.steps) p.0, sym p.1)
  plus-done s (Bad k) e = let z : ◌≡◌ {A = ℕ} 0 1 = cc in absurd (omega arith)

  abbrev pub Walks : (ℕ → ℕ → Walked) → Type 0
  Walks walk = (k d m w : ℕ) → k < count → walk k d ≡ Done m w → Complete code count d k m w

  after-loop : (t k d m w : ℕ) (walk : ℕ → ℕ → Walked) → Walks walk → code k ≡ Opens t → d < 8 → k + 1 < count → (x : Walked)
      → walk (k + 1) (d + 1) ≡ x
      → follow t x (λ j. walk j d) ≡ Done m w → Complete code count d k m w
  unfolding follow
  after-loop t k d m w walk ih q r h (Bad b) ex e = let z : ◌≡◌ {A = ℕ} 0 1 = cc in absurd (omega arith)
  after-loop t k d m w walk ih q r h (Ok a) ex e =
      body (rw (add-one d) at (ih (k + 1) (d + 1) a.next a.steps h ex)) (plus-done (1 + t * (a.steps + 1)) (walk (a.next + 1) d) e)
    where
      body : Complete code count (suc d) (k + 1) a.next a.steps → (u : ℕ) × (walk (a.next + 1) d ≡ Done m u) × (w ≡ 1 + t * (a.steps + 1) + u)
          → Complete code count d k m w
      body (inner s x g) p =
          let z : suc (t * suc a.steps + p.0) ≡ w = omega (arith, p.2) in
          subst (Complete code count d k m) z (complete-loop q x r s (ih (a.next + 1) d m p.0 g p.1))

  by-act : (k d m w : ℕ) (walk : ℕ → ℕ → Walked) → Walks walk → (a : Act) → Told k d a → by_act a k d walk ≡ Done m w
      → Complete code count d k m w
  unfolding by_act Told
  by-act k d m w walk ih (Go s) o e =
      let p = plus-done s (walk (k + 1) d) e in
      let z : suc p.0 ≡ w = omega (arith, p.2, o.2) in
      subst (Complete code count d k m) z (complete-plain o.0 (ih (k + 1) d m p.0 o.1 p.1))
  by-act k d m w walk ih (Enter t) o e = after-loop t k d m w walk ih o.0 o.1 o.2 (walk (k + 1) (d + 1)) refl e
  by-act k zero m w walk ih Leave o e = absurd (let z : 0 < 0 = o.1 in omega arith)
  by-act k (suc d) m w walk ih Leave o e =
      let p = done-parts k 0 m w e in rw (← p.0, ← p.1) (inner empty o.0 o.2)
  by-act k d m w walk ih Finish o e =
      let p = done-parts (k + 1) 1 m w e in rw (← p.0, ← p.1, o.1) (top empty o.0 o.2)
  by-act k d m w walk ih Refuse o e = let z : ◌≡◌ {A = ℕ} 0 1 = cc in absurd (omega arith)

  pub walked : (n : ℕ) → Walks (sequence_of code count n)
  unfolding sequence_of
  walked zero k d m w h e = let z : ◌≡◌ {A = ℕ} 0 1 = cc in absurd (omega arith)
  walked (suc n) k d m w h e = by-act k d m w (sequence_of code count n) (walked n) (act_of code count k d) (told k d h) e
