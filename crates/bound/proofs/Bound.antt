-- One step of the small machine on an accepted program: fewer are left.
use Prim.Native.Nat.{ℕ, suc, ◌+◌, ◌-◌, ◌*◌, ◌<◌, ◌≤◌}
use mathlib.Core.Bool.{Bool, true, false}
use mathlib.Core.Logic.{◌⊎◌, inl, inr}
use mathlib.Core.List.{List, ◌∷◌}
use mathlib.Core.Path.{◌≡◌, refl, sym, ap, subst, ◌∙◌}
use native.Mathlib.Omega.{arith}
use native.Mathlib.Nat.{suc-mul, zero-mul}
use lib.ListN.{length}
use lib.Dec.{eqb, ltb}
use borrow.Author.Tests.{lt-ltb, ltb-true, ltb-false, eqb-true, eqb-false}
use Rattle.ec20.specs.declared.Control.{Control}
use Rattle.ec20.specs.declared.Control.TheVariants.{Plain, Opens, Closes, Jumps, Marks, Ends}
use Rattle.ec20.specs.Control.{Controls}
use Rattle.ec20.specs.Labels.{opens_of, Stands}
use Rattle.bound.specs.Small.{Frame, frame, State, goto, to_found, past_found, open_of, pass_of, done_of, move_on}
use Rattle.bound.proofs.Rows.{Steady, Seq, empty, plain, loop, low}
use Rattle.ec20.proofs.Tests.{picked}
use Rattle.bound.proofs.Search.{to-next, in_row, Within}
use Rattle.bound.proofs.Opens.{open_for, loop-opens}
use Rattle.bound.proofs.Rule.{Rule}
use Rattle.bound.proofs.Left.{After, ends, again, Left, after-in, after-deep, after_none}

-- one pass less, the first one, and the last
pass-less : (x r : ℕ) → 1 < x → (x - 1) * r ≡ (x - 1 - 1) * r + r
pass-less x r h = let e : x - 1 ≡ suc (x - 1 - 1) = omega arith in ap (λ (k : ℕ). k * r) e ∙ suc-mul (x - 1 - 1) r

all-passes : (x r : ℕ) → 0 < x → x * r ≡ (x - 1) * r + r
all-passes x r h = let e : x ≡ suc (x - 1) = omega arith in ap (λ (k : ℕ). k * r) e ∙ suc-mul (x - 1) r

last-pass : (x r : ℕ) → x ≤ 1 → (x - 1) * r ≡ 0
last-pass x r h = let e : x - 1 ≡ 0 = omega arith in ap (λ (k : ℕ). k * r) e ∙ zero-mul r

-- what holds after a step that led to s, of the record i, with flow b, where m steps were left: fewer are left, or it was the last, s is at
-- the last record and no loop is open. Where no jump was taken, just one fewer.
abbrev pub Fewer : Controls → ℕ → Bool → State → Control → ℕ → Type 0
Fewer code count b s i m =
    ((j : ℕ) × Left code count s j × (suc j ≤ m) × (((l : ℕ) → i ≡ Jumps l → b ≡ false) → suc j ≡ m))
    ⊎ ((s.mark ≡ 1) × (m ≡ 1) × (s.pc + 1 ≡ count) × (length s.loops ≡ 0))

module _ (code : Controls) (count : ℕ) (rule : Rule code count) where
  -- where a taken jump leads
  pub jump_in : (k l : ℕ) {d e w c : ℕ} {loops : List Frame} → code k ≡ Jumps l → Seq code d (k + 1) e w → After code count d loops e c
      → (t : ℕ) × Stands code count k l t × Within code d (k + 1) e w t
  jump_in k l {e = e} q s a =
      let i : e < count = after-in code count a in
      let g : k + 1 ≤ e = low s in
      let p = rule k l (omega arith) q in
      (p.0, p.1, in_row code count l p.0 s (after_none code count l a) i p.2)

  -- a record that goes on in record order
  goes_on : (b : Bool) (s : State) (i : Control) (d to w c : ℕ) → s.mark ≡ 0 → Seq code d (s.pc + 1) to w → After code count d s.loops to c
      → Fewer code count b (goto s (s.pc + 1)) i (suc w + c)
  goes_on b s i d to w c z t a =
      inl (w + c, record { d = d; to = to; w = w; c = c; row = t; rest = a; cost = refl; runs = z }, omega arith, λ _. omega arith)

  jump-step : (b : Bool) (s : State) (l d to w c : ℕ) → s.mark ≡ 0 → code s.pc ≡ Jumps l → Seq code d (s.pc + 1) to w
      → After code count d s.loops to c
      → Fewer code count b (done_of code count b s (Jumps l)) (Jumps l) (suc w + c)
  unfolding done_of to_found
  jump-step false s l d to w c z q t a = goes_on false s (Jumps l) d to w c z t a
  jump-step true s l d to w c z q t a =
      let p = jump_in s.pc l q t a in
      let n : p.2.cost ≤ w = p.2.less in
      rw p.1.first (inl (
        p.2.cost + c,
        record { d = d; to = to; w = p.2.cost; c = c; row = p.2.rest; rest = a; cost = refl; runs = z },
        omega arith,
        λ f. absurd (let y : ◌≡◌ {A = Bool} true false = f l refl in let x : ◌≡◌ {A = ℕ} 0 1 = cc in omega arith),
      ))

  steady-step : (b : Bool) (s : State) (i : Control) (d to w c : ℕ) → s.mark ≡ 0 → code s.pc ≡ i → Steady i → Seq code d (s.pc + 1) to w
      → After code count d s.loops to c → Fewer code count b (done_of code count b s i) i (suc w + c)
  unfolding done_of
  steady-step b s Plain d to w c z q o t a = goes_on b s Plain d to w c z t a
  steady-step b s (Opens n) d to w c z q o t a = absurd o
  steady-step b s Closes d to w c z q o t a = absurd o
  steady-step b s (Jumps l) d to w c z q o t a = jump-step b s l d to w c z q t a
  steady-step b s (Marks l) d to w c z q o t a = goes_on b s (Marks l) d to w c z t a
  steady-step b s Ends d to w c z q o t a = absurd o

  -- FOR: with no pass, what comes after the loop; else the first pass
  open_step : (f : Bool) (s : State) (i : Control) (n b d to v w c : ℕ) → s.mark ≡ 0 → code s.pc ≡ Opens n → code b ≡ Closes → d < 8
      → Seq code (suc d) (s.pc + 1) b v → Seq code d (b + 1) to w → After code count d s.loops to c
      → Fewer code count f (open_of code count n s) i (suc (n * suc v + w) + c)
  unfolding open_of past_found
  open_step f s i n b d to v w c z y x r body tail a =
      let e : to < count = after-in code count a in
      let g : b + 1 ≤ to = low tail in
      let deep : length s.loops ≡ d = after-deep code count a in
      let o : opens_of code (s.pc + 1) ≡ s.pc ∷ opens_of code s.pc = open_for code s.pc n y in
      let u : opens_of code (b + 1) ≡ opens_of code s.pc = loop-opens code y x body in
      let h : s.pc + 1 - 1 ≡ s.pc = omega arith in
      let inner : opens_of code (s.pc + 1) ≡ (s.pc + 1 - 1) ∷ opens_of code (b + 1) = rw (h, u) o in
      picked (λ (y : State). Fewer code count f y i (suc (n * suc v + w) + c)) (eqb n 0) _ _
      (λ t.
      let n0 : n * suc v ≡ 0 = ap (λ (k : ℕ). k * suc v) (eqb-true n 0 t) ∙ zero-mul (suc v) in
      rw (to-next code count body x (omega arith)) (inl (
        w + c,
        record { d = d; to = to; w = w; c = c; row = tail; rest = a; cost = refl; runs = z },
        omega arith,
        λ _. omega arith,
      )))
      (λ t.
      let n1 : n ≡ 0 → ⊥ = eqb-false n 0 t in
      let q : n * suc v ≡ (n - 1) * suc v + suc v = all-passes n (suc v) (omega arith) in
      rw (lt-ltb (length s.loops) 8 (omega arith)) (inl (
        v + suc ((n - 1) * suc v + (w + c)),
        record {
          d = suc d;
          to = b;
          w = v;
          c = suc ((n - 1) * suc v + (w + c));
          row = body;
          rest = again r x (omega arith) inner body tail a;
          cost = refl;
          runs = z;
        },
        omega arith,
        λ _. omega arith,
      )))

  -- NEXT: one pass less, or what comes after the loop
  pass_step : (f : Bool) (s : State) (i : Control) (x h d v w to c : ℕ) (outer : List Frame) → s.mark ≡ 0 → d < 8 → code s.pc ≡ Closes
      → s.pc + 1 < count
      → opens_of code h ≡ (h - 1) ∷ opens_of code (s.pc + 1) → Seq code (suc d) h s.pc v → Seq code d (s.pc + 1) to w
      → After code count d outer to c
      → Fewer code count f (pass_of (frame x h ∷ outer) s) i (suc ((x - 1) * suc v + (w + c)))
  unfolding pass_of
  pass_step f s i x h d v w to c outer z r q e o body tail a =
      picked (λ (y : State). Fewer code count f y i (suc ((x - 1) * suc v + (w + c)))) (ltb 1 x) _ _
      (λ t.
      let p : (x - 1) * suc v ≡ (x - 1 - 1) * suc v + suc v = pass-less x (suc v) (ltb-true 1 x t) in
      inl (
        v + suc ((x - 1 - 1) * suc v + (w + c)),
        record {
          d = suc d;
          to = s.pc;
          w = v;
          c = suc ((x - 1 - 1) * suc v + (w + c));
          row = body;
          rest = again r q e o body tail a;
          cost = refl;
          runs = z;
        },
        omega arith,
        λ _. omega arith,
      ))
      (λ t.
      let p : (x - 1) * suc v ≡ 0 = last-pass x (suc v) (ltb-false 1 x t) in
      inl (
        w + c,
        record { d = d; to = to; w = w; c = c; row = tail; rest = a; cost = refl; runs = z },
        omega arith,
        λ _. omega arith,
      ))

  at_end : (f : Bool) (s : State) {loops : List Frame} (d to c : ℕ) → s.mark ≡ 0 → s.loops ≡ loops → to ≡ s.pc → After code count d loops to c
      → Fewer code count f (done_of code count f s (code to)) (code to) c
  unfolding done_of pass_of
  at_end f s d to c z k e (ends q h o) = rw q (inr (refl, refl, rw e at h, ap length k))
  at_end f s d to c z k e (again {d = j} {h = h} {x = x} {v = v} {w = w} {f = g} {c = u} {loops = outer} r q i o body tail a) =
      rw (q, k) (pass_step f s Closes x h j v w g u outer z r (rw e at q) (rw e at i) (rw e at o) (rw e at body) (rw e at tail) a)

  on_row : (f : Bool) (s : State) (pc d to u c : ℕ) → s.mark ≡ 0 → pc ≡ s.pc → Seq code d pc to u → After code count d s.loops to c
      → Fewer code count f (done_of code count f s (code pc)) (code pc) (u + c)
  unfolding done_of
  on_row f s pc d to u c z e empty a = let y : 0 + c ≡ c = omega arith in rw y (at_end f s d to c z refl e a)
  on_row f s pc d to u c z e (plain {w = w} o t) a =
      steady-step f s (code pc) d to w c z (ap code (sym e)) o (subst (λ (j : ℕ). Seq code d (j + 1) to w) e t) a
  on_row f s pc d to u c z e (loop {b = b} {n = n} {v = v} {w = w} q x r body tail) a =
      rw q (open_step f s (Opens n) n b d to v w c z (rw e at q) x r (subst (λ (j : ℕ). Seq code (suc d) (j + 1) b v) e body) tail a)

  -- one step on
  pub fewer-left : (f : Bool) (s : State) (m : ℕ) → Left code count s m → Fewer code count f (move_on code count f s) (code s.pc) m
  unfolding move_on
  fewer-left f s m g =
      let i : g.to < count = after-in code count g.rest in
      let l : s.pc ≤ g.to = low g.row in
      rw (lt-ltb s.pc count (omega arith)) (
      subst (Fewer code count f (done_of code count f s (code s.pc)) (code s.pc)) g.cost
      (on_row f s s.pc g.d g.to g.w g.c g.runs refl g.row g.rest)
      )
