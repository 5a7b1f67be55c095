-- Each instruction: what its call gives is what the definition says. Assumes nothing.
use Prim.Native.Nat.{ℕ, ◌+◌}
use mathlib.Core.Path.{◌≡◌, refl, sym, ap, subst, ◌∙◌}
use Rattle.ec20.specs.Code.{Program}
use Rattle.ec20.specs.Flow.{is_on, onward, acted, gone, stopped, contact_of, compare_of, join_of, branch_of, coil_of}
use Rattle.ec20.specs.Memory.{Memory, load_bit, load_of}
use Rattle.ec20.specs.Step.{World, Open, world, for_of, close_of, jump_of, word_of, exec_of, step_of}
use Rattle.ec20.specs.Timers.{timer_of}
use Rattle.ec20.specs.declared.Instr.{Instr}
use Rattle.ec20.specs.declared.Instr.TheVariants.{Nop, Contact, Compare, Join, Branch, Coil, Timer, For, Next, Jump, Label, End, Word}
use Rattle.ec20.specs.declared.Machine.{Machine}
use Rattle.ec20.specs.declared.Operand.{Operand}
use Rattle.ec20.specs.declared.Units.{Units}

module _ (p : Program) (e : Units) where
  -- an arm of the match: the instruction is j there
  in-arm : (w : World) {j : Instr} {v : World} → p.code w.st.pc ≡ j → v ≡ exec_of p e j w → v ≡ step_of p e w
  unfolding step_of
  in-arm w {v = v} g h = subst (λ (k : Instr). v ≡ exec_of p e k w) (sym g) h

  module _ (c : Memory) (o : Open) (s : Machine) where
    same : {r q : Machine} → r ≡ q → world c o r ≡ world c o q
    same f = ap (world c o) f

    pub nop-arm : {r : Machine} → p.code s.pc ≡ Nop → r ≡ onward s → world c o r ≡ step_of p e (world c o s)
    unfolding exec_of
    nop-arm g f = in-arm (world c o s) g (same f)

    pub contact-arm : {r : Machine} {n : ℕ} {a : Operand} → p.code s.pc ≡ Contact n a → r ≡ contact_of n (load_bit a c) s → world c o r ≡ step_of p e (world c o s)
    unfolding exec_of
    contact-arm g f = in-arm (world c o s) g (same f)

    pub compare-arm : {r : Machine} {n w : ℕ} {a u : Operand} → p.code s.pc ≡ Compare n a u → w ≡ 16 → r ≡ compare_of n (load_of w a c) (load_of w u c) s → world c o r ≡ step_of p e (world c o s)
    unfolding exec_of
    compare-arm {n = n} {a = a} {u = u} g h f =
        in-arm (world c o s) g (same (f ∙ ap (λ (w : ℕ). compare_of n (load_of w a c) (load_of w u c) s) h))

    pub join-arm : {r : Machine} {n : ℕ} → p.code s.pc ≡ Join n → r ≡ join_of n s → world c o r ≡ step_of p e (world c o s)
    unfolding exec_of
    join-arm g f = in-arm (world c o s) g (same f)

    pub branch-arm : {r : Machine} {n : ℕ} → p.code s.pc ≡ Branch n → r ≡ branch_of n s → world c o r ≡ step_of p e (world c o s)
    unfolding exec_of
    branch-arm g f = in-arm (world c o s) g (same f)

    pub coil-arm : {n : ℕ} {a : Operand} {v : World} → p.code s.pc ≡ Coil n a → v ≡ world (coil_of n a (is_on s) c) o (acted s) → v ≡ step_of p e (world c o s)
    unfolding exec_of
    coil-arm g f = in-arm (world c o s) g f

    pub timer-arm : {k u : ℕ} {v : World} → p.code s.pc ≡ Timer k u → v ≡ world (timer_of e k u (is_on s) c) o (acted s) → v ≡ step_of p e (world c o s)
    unfolding exec_of
    timer-arm g f = in-arm (world c o s) g f

    pub for-arm : {n : ℕ} {v : World} → p.code s.pc ≡ For n → v ≡ for_of p n (world c o s) → v ≡ step_of p e (world c o s)
    unfolding exec_of
    for-arm g f = in-arm (world c o s) g f

    pub next-arm : {v : World} → p.code s.pc ≡ Next → v ≡ close_of (world c o s) → v ≡ step_of p e (world c o s)
    unfolding exec_of
    next-arm g f = in-arm (world c o s) g f

    pub jump-arm : {r : Machine} {n : ℕ} → p.code s.pc ≡ Jump n → r ≡ jump_of p n s → world c o r ≡ step_of p e (world c o s)
    unfolding exec_of
    jump-arm g f = in-arm (world c o s) g (same f)

    pub label-arm : {r : Machine} {n : ℕ} → p.code s.pc ≡ Label n → r ≡ gone s (s.pc + 1) s.depth → world c o r ≡ step_of p e (world c o s)
    unfolding exec_of
    label-arm g f = in-arm (world c o s) g (same f)

    pub end-arm : {r : Machine} → p.code s.pc ≡ End → r ≡ stopped s → world c o r ≡ step_of p e (world c o s)
    unfolding exec_of
    end-arm g f = in-arm (world c o s) g (same f)

    pub word-arm : {n : ℕ} {a u t : Operand} {v : World} → p.code s.pc ≡ Word n a u t → v ≡ word_of n a u t (world c o s) → v ≡ step_of p e (world c o s)
    unfolding exec_of
    word-arm g f = in-arm (world c o s) g f

-- memory and state, each by its own equation
pub both-parts : (o : Open) {c c' : Memory} {s s' : Machine} → c ≡ c' → s ≡ s' → world c o s ≡ world c' o s'
both-parts o e f = rw (e, f) refl
