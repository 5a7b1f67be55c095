-- FOR, NEXT and CJ by cases, over plain values: what the calls of each function give together. Assumes nothing.
use Prim.Native.Nat.{ℕ, ◌+◌, ◌-◌, ◌<◌, ◌≤◌}
use mathlib.Core.Bool.{true, false}
use mathlib.Core.List.{List}
use mathlib.Core.Path.{◌≡◌, ap, ◌∙◌}
use lib.ListN.{get_or, set}
use borrow.Author.Tests.{eq-eqb, ne_eqb, lt-ltb, le-ltb}
use Rattle.ec20.specs.Code.{Program}
use Rattle.ec20.specs.Control.{controls_of, next_of_for, first_label, or_past}
use Rattle.ec20.specs.Flow.{is_on, gone}
use Rattle.ec20.specs.Memory.{Memory}
use Rattle.ec20.specs.Step.{open_loops, world, for_of, close_of, jump_of}
use Rattle.ec20.specs.declared.Machine.{Machine}

module _ (p : Program) (c : Memory) (l b : List ℕ) (s r : Machine) (passes : ℕ) where
  -- FOR 0
  pub for-none : (n : ℕ) → passes ≡ 0 → r ≡ gone s (n + 1) s.depth → n ≡ or_past p.count (next_of_for (controls_of p) p.count s.pc)
      → world c (open_loops l b) r ≡ for_of p passes (world c (open_loops l b) s)
  unfolding for_of
  for-none n z q e = ap (world c (open_loops l b)) (q ∙ ap (λ (k : ℕ). gone s (k + 1) s.depth) e) ∙ rw (eq-eqb _ _ z)

  -- a loop is opened
  pub for_some : (passes ≡ 0 → ⊥) → s.depth < 8 → r ≡ gone s (s.pc + 1) (s.depth + 1)
      → world c (open_loops (set l s.depth passes) (set b s.depth (s.pc + 1))) r ≡ for_of p passes (world c (open_loops l b) s)
  unfolding for_of
  for_some z h q = ap (world c (open_loops _ _)) q ∙ rw (ne_eqb _ _ z, lt-ltb _ _ h)

  -- the ninth is passed by
  pub for-ninth : (passes ≡ 0 → ⊥) → 8 ≤ s.depth → r ≡ gone s (s.pc + 1) s.depth → world c (open_loops l b) r ≡ for_of p passes (world c (open_loops l b) s)
  unfolding for_of
  for-ninth z h q = ap (world c (open_loops _ _)) q ∙ rw (ne_eqb _ _ z, le-ltb _ _ h)

module _ (c : Memory) (l b : List ℕ) (s r : Machine) (i : ℕ) (e : i ≡ s.depth - 1) where
  -- NEXT, with passes to go
  pub close-again : 1 < get_or l i 0 → r ≡ gone s (get_or b i 0) s.depth
      → world c (open_loops (set l i (get_or l i 0 - 1)) b) r ≡ close_of (world c (open_loops l b) s)
  unfolding close_of
  close-again h q = ap (world c (open_loops _ _)) q ∙ rw (e, lt-ltb _ _ (rw e at h))

  -- NEXT, with none
  pub close-done : get_or l i 0 ≤ 1 → r ≡ gone s (s.pc + 1) i → world c (open_loops l b) r ≡ close_of (world c (open_loops l b) s)
  unfolding close_of
  close-done h q = ap (world c (open_loops _ _)) q ∙ rw (e, le-ltb _ _ (rw e at h))

module _ (p : Program) (l : ℕ) (s r : Machine) where
  -- CJ with flow
  pub jump-on : (k : ℕ) → is_on s ≡ true → r ≡ gone s k s.depth → k ≡ or_past p.count (first_label (controls_of p) p.count l) → r ≡ jump_of p l s
  unfolding jump_of
  jump-on k h q e = q ∙ (ap (λ (k : ℕ). gone s k s.depth) e ∙ rw h)

  -- CJ without
  pub jump-off : is_on s ≡ false → r ≡ gone s (s.pc + 1) s.depth → r ≡ jump_of p l s
  unfolding jump_of
  jump-off h q = q ∙ rw h
