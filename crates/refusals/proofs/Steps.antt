-- W and 8, as the check computes them and as the table says them.
use Prim.Native.Nat.{ℕ, suc, ◌+◌, ◌*◌, ◌<◌, ◌≤◌}
use mathlib.Core.Bool.{Bool}
use mathlib.Core.List.{List, [], ◌∷◌}
use mathlib.Core.Path.{◌≡◌, refl, sym, ap, subst, ◌∙◌}
use native.Mathlib.Numerals.{add-one}
use native.Mathlib.Omega.{arith}
use borrow.Author.Tests.{le-leb, lt-leb}
use Rattle.ec20.specs.declared.Instr.{Instr}
use Rattle.ec20.specs.declared.Instr.TheVariants.{Nop, Contact, Compare, Join, Branch, Coil, Timer, For, Next, Jump, Label, End, Word}
use Rattle.ec20.specs.Judged.{Fine, Fault}
use Rattle.ec20.specs.Basics.{pick}
use Rattle.ec20.specs.Code.{Program}
use Rattle.ec20.specs.Control.{control_of, controls_of}
use Rattle.ec20.specs.Loops.{Body, body, counting, closing, bodies_after, bodies_at, w_in, first_unsound, too_long}
use Rattle.ec20.specs.Check.{w_of}
use Rattle.ec20.specs.Walkers.{steps_walked, walked}
use Rattle.ec20.proofs.Walkers.{walked-unsound}
use Rattle.bound.proofs.Accepted.{sound-walk}
use Rattle.bound.proofs.Rows.{Steady, Seq, empty, plain, loop, Complete, top}
use Rattle.bound.proofs.Rows as Rows
use Rattle.refusals.specs.Steps.{Single, Sums, nothing, one_record, one_loop, WOf, Line8, above}
use Rattle.refusals.proofs.Controls.{is-for, is-next, is-end}

-- ---- a record that is neither FOR nor NEXT, and END, which is one

pub steady-single : (i : Instr) → Steady (control_of i) → Single i
unfolding control_of
steady-single i o = record {
  no_for = λ n e. subst (λ (j : Instr). Steady (control_of j)) e o;
  no_next = λ e. subst (λ (j : Instr). Steady (control_of j)) e o;
}

pub end-single : (i : Instr) → i ≡ End → Single i
end-single i e = record {
  no_for = λ n h. let d : End ≡ For n = sym e ∙ h in let z : ◌≡◌ {A = ℕ} 0 1 = cc in omega arith;
  no_next = λ h. let d : End ≡ Next = sym e ∙ h in let z : ◌≡◌ {A = ℕ} 0 1 = cc in omega arith;
}

-- ---- a body in words counts as the check counts it

count_none : (s : List Body) → s ≡ counting 0 s
unfolding counting
count_none [] = refl
count_none (b ∷ outer) = let e : b.steps + 0 ≡ b.steps = omega arith in rw e refl

count-both : (a w : ℕ) (s : List Body) → counting w (counting a s) ≡ counting (a + w) s
unfolding counting
count-both a w [] = refl
count-both a w (b ∷ outer) = let e : b.steps + a + w ≡ b.steps + (a + w) = omega arith in rw e refl

single-counts : (i : Instr) (s : List Body) → Single i → bodies_after (control_of i) s ≡ counting 1 s
unfolding control_of bodies_after
single-counts Nop s z = refl
single-counts (Contact n o) s z = refl
single-counts (Compare n a b) s z = refl
single-counts (Join n) s z = refl
single-counts (Branch n) s z = refl
single-counts (Coil n o) s z = refl
single-counts (Timer i c) s z = refl
single-counts (For c) s z = absurd (z.no_for c refl)
single-counts Next s z = absurd (z.no_next refl)
single-counts (Jump l) s z = refl
single-counts (Label l) s z = refl
single-counts End s z = refl
single-counts (Word n a b t) s z = refl

for-opens : {i : Instr} {n : ℕ} (s : List Body) → i ≡ For n → bodies_after (control_of i) s ≡ body n 0 ∷ s
unfolding control_of bodies_after
for-opens s e = rw e refl

next-closes : {i : Instr} (n v : ℕ) (s : List Body) → i ≡ Next → bodies_after (control_of i) (counting v (body n 0 ∷ s)) ≡ counting (1 + n * (v + 1)) s
unfolding control_of bodies_after counting closing
next-closes n v s e = let z : 0 + v ≡ v = omega arith in rw (e, z) refl

module _ (p : Program) where
  abbrev bodies : ℕ → List Body
  bodies k = bodies_at (controls_of p) k

  bodies-next : (k : ℕ) → bodies (k + 1) ≡ bodies_after (control_of (p.code k)) (bodies k)
  unfolding bodies_at
  bodies-next k = rw add-one refl

  sums-bodies : {k e w : ℕ} → Sums p.code k e w → bodies e ≡ counting w (bodies k)
  sums-bodies (nothing {k = k}) = count_none (bodies k)
  sums-bodies (one_record {k = k} {w = w} z t) =
      let e : bodies (k + 1) ≡ counting 1 (bodies k) = bodies-next k ∙ single-counts (p.code k) (bodies k) z in
      sums-bodies t ∙ (ap (counting w) e ∙ count-both 1 w (bodies k))
  sums-bodies (one_loop {k = k} {b = b} {n = n} {v = v} {w = w} q s x t) =
      let i : bodies (k + 1) ≡ body n 0 ∷ bodies k = bodies-next k ∙ for-opens (bodies k) q in
      let j : bodies b ≡ counting v (body n 0 ∷ bodies k) = sums-bodies s ∙ ap (counting v) i in
      let o : bodies (b + 1) ≡ counting (1 + n * (v + 1)) (bodies k) =
      bodies-next b ∙ (ap (bodies_after (control_of (p.code b))) j ∙ next-closes n v (bodies k) x) in
      sums-bodies t ∙ (ap (counting w) o ∙ count-both (1 + n * (v + 1)) w (bodies k))

  -- W in words is the W that the check computes, and no other
  pub w-is : {w : ℕ} → WOf p w → w_of p ≡ w
  unfolding w_in bodies_at counting
  w-is {w} s = let e : 0 + w ≡ w = omega arith in rw (sums-bodies s) e

  -- ---- and there is one where 6 does not refuse

  seq-sums : {d k e w : ℕ} → Seq (controls_of p) d k e w → Sums p.code k e w
  seq-sums empty = nothing
  seq-sums (plain {k = k} {e = e} {w = w} o t) =
      let z : 1 + w ≡ suc w = omega arith in
      subst (Sums p.code k e) z (one_record (steady-single (p.code k) o) (seq-sums t))
  seq-sums (loop {k = k} {e = e} {n = n} {v = v} {w = w} q x r s t) =
      let y : v + 1 ≡ suc v = omega arith in
      let z : 1 + n * suc v + w ≡ suc (n * suc v + w) = omega arith in
      subst (Sums p.code k e) (ap (λ (j : ℕ). 1 + n * j + w) y ∙ z) (one_loop (is-for q) (seq-sums s) (is-next x) (seq-sums t))

  sums-end : {k e w : ℕ} → Sums p.code k e w → Single (p.code e) → Sums p.code k (e + 1) (w + 1)
  sums-end nothing z = one_record z nothing
  sums-end (one_record {k = k} {e = e} {w = w} o t) z =
      let y : 1 + (w + 1) ≡ 1 + w + 1 = omega arith in
      subst (Sums p.code k (e + 1)) y (one_record o (sums-end t z))
  sums-end (one_loop {k = k} {e = e} {n = n} {v = v} {w = w} q s x t) z =
      let y : 1 + n * (v + 1) + (w + 1) ≡ 1 + n * (v + 1) + w + 1 = omega arith in
      subst (Sums p.code k (e + 1)) y (one_loop q s x (sums-end t z))

  complete-sums : {m w : ℕ} → Complete (controls_of p) p.count 0 0 m w → (u : ℕ) × WOf p u
  complete-sums (top {e = e} {u = u} s l z) =
      (u + 1, subst (λ (j : ℕ). Sums p.code 0 j (u + 1)) z (sums-end (seq-sums s) (end-single (p.code e) (is-end l))))

  pub w-there : 0 < p.count → first_unsound (controls_of p) p.count ≡ Fine → WOf p (w_of p)
  w-there some e =
      let d = sound-walk (walked p) (walked-unsound (controls_of p) p.count some ∙ e) in
      let c = Rows.walked (controls_of p) p.count p.count 0 0 d.0 (steps_walked (walked p)) some d.1 in
      let w = complete-sums c in
      subst (WOf p) (sym (w-is w.1)) w.1

  -- ---- 8

  pub line-8 : Line8 p → 10000000 < w_of p
  line-8 (above s h) = subst (λ (j : ℕ). 10000000 < j) (sym (w-is s)) h

  pub long : 10000000 < w_of p → too_long (w_of p) ≡ Fault 8 0
  long h = ap (λ (t : Bool). pick t Fine (Fault 8 0)) (lt-leb (w_of p) 10000000 h)

  pub not-long : w_of p ≤ 10000000 → too_long (w_of p) ≡ Fine
  not-long h = ap (λ (t : Bool). pick t Fine (Fault 8 0)) (le-leb (w_of p) 10000000 h)
