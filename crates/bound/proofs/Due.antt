-- Where something is left, what is due is safe.
use Prim.Native.Nat.{ℕ, ◌+◌, ◌<◌, ◌≤◌}
use mathlib.Core.List.{List}
use mathlib.Core.Path.{◌≡◌, refl, sym, ◌∙◌}
use native.Mathlib.Omega.{arith}
use lib.ListN.{length}
use Rattle.ec20.specs.declared.Control.{Control}
use Rattle.ec20.specs.declared.Control.TheVariants.{Plain, Opens, Closes, Jumps, Marks, Ends}
use Rattle.ec20.specs.Control.{Controls, marks}
use Rattle.ec20.specs.Labels.{opens_of}
use Rattle.bound.specs.Small.{Frame, State}
use Rattle.bound.specs.Safe.{Lands, Due}
use Rattle.bound.proofs.Rows.{Steady, Seq, empty, plain, loop, low}
use Rattle.bound.proofs.First.{first-at}
use Rattle.bound.proofs.Search.{to-next}
use Rattle.bound.proofs.Opens.{row_opens}
use Rattle.bound.proofs.Rule.{Rule}
use Rattle.bound.proofs.Left.{After, ends, again, Left, fors, after-in, after-deep, after-low, after-opens}
use Rattle.bound.proofs.Bound.{jump_in}

-- the same of the small machine as specs/Safe.antt says of the whole one
pub record Held (code : Controls) (count : ℕ) (s : State) : Type 0 where
  pub inside : s.pc < count
  pub room : length s.loops ≤ 8
  pub loops : opens_of code s.pc ≡ fors s.loops
  pub due : Due code count s.pc (length s.loops) (code s.pc)

module _ (code : Controls) (count : ℕ) (rule : Rule code count) where
  lands : (k l : ℕ) {d e w c : ℕ} {loops : List Frame} → code k ≡ Jumps l → Seq code d (k + 1) e w → After code count d loops e c
      → Lands code count k l
  lands k l {e = e} q s a =
      let p = jump_in code count rule k l q s a in
      let y : p.0 ≤ e = p.2.until in
      let z : e < count = after-in code count a in
      record { to = p.0; stands = p.1; marked = (first-at (λ j. marks l (code j)) count 0 p.0 p.1.first).passes; inside = omega arith }

  steady-due : (k : ℕ) (i : Control) {d e w c : ℕ} {loops : List Frame} → code k ≡ i → Steady i → Seq code d (k + 1) e w
      → After code count d loops e c
      → Due code count k (length loops) i
  steady-due k Plain q o s a = tt
  steady-due k (Opens n) q o s a = absurd o
  steady-due k Closes q o s a = absurd o
  steady-due k (Jumps l) q o s a = lands k l q s a
  steady-due k (Marks l) q o s a = tt
  steady-due k Ends q o s a = absurd o

  end_due : {d to c : ℕ} {loops : List Frame} → After code count d loops to c → Due code count to (length loops) (code to)
  end_due (ends q h o) = rw q refl
  end_due (again r q h o b t a) = rw q (omega arith)

  row-due : {d k to w c : ℕ} {loops : List Frame} → Seq code d k to w → After code count d loops to c → Due code count k (length loops) (code k)
  row-due empty a = end_due a
  row-due {k = k} (plain o t) a = steady-due k (code k) refl o t a
  row-due {to = to} (loop {k = k} {b = b} q x r s t) a =
      let i : to < count = after-in code count a in
      let g : b + 1 ≤ to = low t in
      let j : k + 1 ≤ b = low s in
      let y = after-deep code count a in
      rw q (record {
        room = omega arith;
        next = b;
        found = to-next code count s x (omega arith);
        closing = x;
        later = omega arith;
        inside = omega arith;
      })

  pub left-held : {s : State} {m : ℕ} → Left code count s m → Held code count s
  left-held {s} g =
      let i : g.to < count = after-in code count g.rest in
      let l : s.pc ≤ g.to = low g.row in
      let a : length s.loops ≡ g.d = after-deep code count g.rest in
      let b : g.d ≤ 8 = after-low code count g.rest in
      record {
        inside = omega arith;
        room = omega arith;
        loops = sym (row_opens code g.row) ∙ after-opens code count g.rest;
        due = row-due g.row g.rest;
      }
