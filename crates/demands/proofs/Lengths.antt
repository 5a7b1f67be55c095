-- No step changes the length of a table: before each step of a scan that is not refused by 9 each table is as long as the device has it.
use Prim.Native.Nat.{ℕ, zero, suc, ◌-◌, ◌/◌}
use mathlib.Core.Path.{◌≡◌, refl, ◌∙◌}
use native.Mathlib.Decide.{ℕ_discrete}
use lib.Dec.{eqb, ltb}
use lib.ListN.{get_or, length}
use Rattle.ec20.proofs.Tests.{picked}
use Rattle.ec20.specs.declared.Units.{Units}
use Rattle.ec20.specs.declared.Instr.{Instr}
use Rattle.ec20.specs.declared.Instr.TheVariants.{Nop, Contact, Compare, Join, Branch, Coil, Timer, For, Next, Jump, Label, End, Word}
use Rattle.ec20.specs.Code.{Program}
use Rattle.ec20.specs.Devices.{Device}
use Rattle.ec20.specs.Flow.{is_on}
use Rattle.ec20.specs.Memory.{Memory}
use Rattle.ec20.specs.Plant.{Plant, units_in}
use Rattle.ec20.specs.Step.{World, width_of, for_of, close_of, outcome_of, settle, word_of, exec_of, step_of}
use Rattle.bits.proofs.Laws.{bit_length}
use Rattle.operands.proofs.Laws.{SameLengths, same-lengths, lengths-on, store-all-lengths, coil-lengths, timer-lengths}
use Rattle.demands.specs.Lines.{Not9, size_x, size_y, size_m, size_sm, size_t, size_d, size_tv}
use Rattle.demands.specs.Steps.{after_steps, scan_after}

-- from the world w to the world u
abbrev Kept : World → World → Type 0
Kept w u = SameLengths w.mem u.mem

exec-lengths : (p : Program) (u : Units) (i : Instr) (w : World) → Kept w (exec_of p u i w)
unfolding exec_of for_of close_of word_of settle
exec-lengths p u Nop w = same-lengths w.mem
exec-lengths p u (Contact n o) w = same-lengths w.mem
exec-lengths p u (Compare n a b) w = same-lengths w.mem
exec-lengths p u (Join n) w = same-lengths w.mem
exec-lengths p u (Branch n) w = same-lengths w.mem
exec-lengths p u (Coil n o) w = coil-lengths n o (is_on w.st) w.mem
exec-lengths p u (Timer i k) w = timer-lengths u i k (is_on w.st) w.mem
exec-lengths p u (For k) w =
    picked (Kept w) (eqb k 0) _ _ (λ _. same-lengths w.mem)
    (λ _. picked (Kept w) (ltb w.st.depth 8) _ _ (λ _. same-lengths w.mem) (λ _. same-lengths w.mem))
exec-lengths p u Next w =
    picked (Kept w) (ltb 1 (get_or w.loops.left (w.st.depth - 1) 0)) _ _ (λ _. same-lengths w.mem) (λ _. same-lengths w.mem)
exec-lengths p u (Jump l) w = same-lengths w.mem
exec-lengths p u (Label l) w = same-lengths w.mem
exec-lengths p u End w = same-lengths w.mem
exec-lengths p u (Word n a b t) w =
    let r = outcome_of n a b w.mem in
    picked (Kept w) (is_on w.st) _ _
    (λ _. picked (Kept w) (eqb r.error 0) _ _ (λ _. store-all-lengths (width_of n) t r w.mem) (λ _. same-lengths w.mem))
    (λ _. same-lengths w.mem)

-- the tables of c are as long as the device has them
pub record Sizes (v : Device) (c : Memory) : Type 0 where
  pub x : length c.x ≡ v.x / 8
  pub y : length c.y ≡ v.y / 8
  pub m : length c.m ≡ v.m / 8
  pub sm : length c.sm ≡ v.sm / 8
  pub t : length c.t ≡ v.t / 8
  pub d : length c.d ≡ v.words
  pub tv : length c.tv ≡ v.t

equal : {a b : ℕ} → ((a ≡ b → ⊥) → ⊥) → a ≡ b
equal {a} {b} h = elim (ℕ_discrete a b) [ yes e ↦ e | no n ↦ absurd (h n) ]

module _ (v : Device) (p : Program) (u : Units) (c : Memory) where
  after-lengths : (j : ℕ) → SameLengths c (after_steps v p u c j).mem
  unfolding after_steps step_of
  after-lengths zero =
      picked (SameLengths c) v.wakes _ _
      (λ _. record { x = refl; y = refl; m = refl; sm = bit_length c.sm 0 1; t = refl; d = refl; tv = refl })
      (λ _. same-lengths c)
  after-lengths (suc j) =
      let w = after_steps v p u c j in
      lengths-on (after-lengths j) (exec-lengths p u (p.code w.st.pc) w)

pub after-sizes : (v : Device) (p : Program) (e : ℕ) (q : Plant) → Not9 v e q → (j : ℕ) → Sizes v (scan_after v p e q j).mem
after-sizes v p e q h j =
    let s = after-lengths v p (units_in e q.rest) q.mem j in
    record {
      x = s.x ∙ equal (λ n. h (size_x n));
      y = s.y ∙ equal (λ n. h (size_y n));
      m = s.m ∙ equal (λ n. h (size_m n));
      sm = s.sm ∙ equal (λ n. h (size_sm n));
      t = s.t ∙ equal (λ n. h (size_t n));
      d = s.d ∙ equal (λ n. h (size_d n));
      tv = s.tv ∙ equal (λ n. h (size_tv n));
    }
