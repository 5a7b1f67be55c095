-- Contacts, comparisons, joins, branches, coils, timers and words all go on to the next record, and leave loops and END alone.
use Prim.Native.Nat.{ℕ, ◌+◌}
use mathlib.Core.Bool.{Bool, ◌||◌}
use mathlib.Core.Path.{◌≡◌, refl}
use lib.Dec.{eqb}
use lib.IntN.{ℤ}
use Rattle.ec20.specs.declared.Machine.{Machine}
use Rattle.ec20.specs.declared.Operand.{Operand}
use Rattle.ec20.specs.declared.Outcome.{Outcome}
use Rattle.ec20.specs.Memory.{Memory}
use Rattle.ec20.specs.Flow.{is_on, acted, failed, loaded, contact_of, compare_of, join_of, branch_of}
use Rattle.ec20.specs.Step.{World, going, outcome_of, settle, word_of}
use Rattle.ec20.proofs.Tests.{picked}

-- from the state s to the state t
pub record Onward (s t : Machine) : Type 0 where
  pub pc : t.pc ≡ s.pc + 1
  pub depth : t.depth ≡ s.depth
  pub ended : t.ended ≡ s.ended

-- and of the loops' tables nothing changes
pub record Ahead (w u : World) : Type 0 where
  pub left : u.loops.left ≡ w.loops.left
  pub back : u.loops.back ≡ w.loops.back
  pub st : Onward w.st u.st

pub ahead : (w : World) (c : Memory) (t : Machine) → Onward w.st t → Ahead w (going w c t)
ahead w c t o = record { left = refl; back = refl; st = o }

pub acted-on : (s : Machine) → Onward s (acted s)
acted-on s = record { pc = refl; depth = refl; ended = refl }

failed-on : (s : Machine) (e : ℕ) → Onward s (failed s e)
unfolding failed
failed-on s e = picked (Onward s) (eqb s.error 0) _ _ (λ _. record { pc = refl; depth = refl; ended = refl }) (λ _. acted-on s)

loaded_on : (s : Machine) (b : Bool) → Onward s (loaded s b)
unfolding loaded
loaded_on s b = record { pc = refl; depth = refl; ended = refl }

pub contact-on : (n : ℕ) (bit : Bool) (s : Machine) → Onward s (contact_of n bit s)
unfolding contact_of
contact-on n bit s =
    picked (Onward s) (eqb n 1 || eqb n 2) _ _
    (λ _. loaded_on s _)
    (λ _.
    picked (Onward s) (eqb n 3 || eqb n 4) _ _
    (λ _. record { pc = refl; depth = refl; ended = refl })
    (λ _. record { pc = refl; depth = refl; ended = refl }))

pub compare-on : (n : ℕ) (a b : ℤ) (s : Machine) → Onward s (compare_of n a b s)
unfolding compare_of
compare-on n a b s = loaded_on s _

pub join-on : (n : ℕ) (s : Machine) → Onward s (join_of n s)
unfolding join_of
join-on n s = record { pc = refl; depth = refl; ended = refl }

pub branch-on : (n : ℕ) (s : Machine) → Onward s (branch_of n s)
unfolding branch_of
branch-on n s =
    picked (Onward s) (eqb n 9) _ _
    (λ _. record { pc = refl; depth = refl; ended = refl })
    (λ _.
    picked (Onward s) (eqb n 10) _ _
    (λ _. record { pc = refl; depth = refl; ended = refl })
    (λ _. record { pc = refl; depth = refl; ended = refl }))

settle-on : (n : ℕ) (t : Operand) (r : Outcome) (w : World) → Ahead w (settle n t r w)
unfolding settle
settle-on n t r w =
    picked (Ahead w) (eqb r.error 0) _ _
    (λ _. ahead w _ _ (acted-on w.st))
    (λ _. ahead w _ _ (failed-on w.st r.error))

pub word_on : (n : ℕ) (a b t : Operand) (w : World) → Ahead w (word_of n a b t w)
unfolding word_of
word_on n a b t w =
    picked (Ahead w) (is_on w.st) _ _
    (λ _. settle-on n t (outcome_of n a b w.mem) w)
    (λ _. ahead w _ _ (acted-on w.st))
