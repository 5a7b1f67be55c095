-- WHAT REQUESTS CHANGE: served. Its statement is in specs/Served.antt. Assumes nothing.
use Prim.Native.Nat.{ℕ, ◌≤◌, ◌<◌}
use mathlib.Core.Bool.{true}
use mathlib.Core.List.{List}
use mathlib.Core.Logic.{◌⊎◌, inl, inr}
use mathlib.Core.Path.{◌≡◌, refl}
use native.Mathlib.Omega.{arith}
use lib.IntN.{ℤ, pos}
use lib.ListN.{length, length-set}
use lib.Seq.{get_or-set_other}
use Rattle.bits.proofs.Laws.{bit_length}
use Rattle.ec20.specs.Registers.{word_at}
use Rattle.modbus.proofs.Good.{range-fits}
use Rattle.modbus.proofs.Lengths.{coils-kept, registers-kept}
use Rattle.modbus.specs.Answered.{Refused, Silent}
use Rattle.modbus.specs.Answer.{Answer, replied, answer_of}
use Rattle.modbus.specs.Exceptions.{is_of_coils, is_single, meant, exception_of}
use Rattle.modbus.specs.Frame.{function_of, address_of, quantity_of, is_heard}
use Rattle.modbus.specs.Writes.{coils_after, registers_after}
use Rattle.served.specs.Served.{Reads, Writes, GoodWrite, Unchanged, Served}
use Rattle.served.proofs.Ways.{ways}
use Rattle.served.proofs.Changes.{outside-work, taken-other, registers-after, coils-after}

module _ (own : ℕ) (f m : List ℕ) (d : List ℤ) (b : List ℕ) where
  -- what holds of the tables as they were, and as a good request leaves them, holds of them afterwards
  tables : (P : List ℕ → List ℤ → Type 0) → P m d → (is_heard own f ≡ true → exception_of f ≡ 0 → P (coils_after f m) (registers_after f d))
      → P (answer_of own f m d b).m (answer_of own f m d b).d
  unfolding replied
  tables P same done = ways (λ (a : Answer). P a.m a.d) own f m d b (λ _ _. same) same done done same

  work : (i : ℕ) → 7900 ≤ i → i < 8000 → word_at (answer_of own f m d b).d i ≡ word_at d i
  unfolding is_of_coils meant is_single
  work i l u =
      tables (λ _ e. word_at e i ≡ word_at d i) refl
      (λ _ good.
      registers-after (λ (e : List ℤ). word_at e i ≡ word_at d i) f d refl
      (λ six.
      get_or-set_other d (address_of f) i _ (pos 0) (λ q. outside-work 6 (address_of f) (quantity_of f) refl refl (range-fits f good 6 six) i l u 0 (omega arith) (omega arith)))
      (λ sixteen.
      taken-other d (address_of f) f (quantity_of f) i (λ j b e. outside-work 16 (address_of f) (quantity_of f) refl refl (range-fits f good 16 sixteen) i l u j b e)))

  -- a request that writes nothing leaves both tables
  idle : (Writes f → ⊥) → (coils_after f m ≡ m) × (registers_after f d ≡ d)
  idle h = (
    coils-after (λ (l : List ℕ). l ≡ m) f m refl (λ e _. absurd (h (inl e))) (λ e. absurd (h (inr (inr (inl e))))),
    registers-after (λ (l : List ℤ). l ≡ d) f d refl (λ e. absurd (h (inr (inl e)))) (λ e. absurd (h (inr (inr (inr e))))),
  )

  one-kind : (n : ℕ) → Writes f → function_of f ≡ n → (n ≡ 1) ⊎ (n ≡ 3) → ⊥
  one-kind n (inl e) g (inl q) = omega arith
  one-kind n (inl e) g (inr q) = omega arith
  one-kind n (inr (inl e)) g (inl q) = omega arith
  one-kind n (inr (inl e)) g (inr q) = omega arith
  one-kind n (inr (inr (inl e))) g (inl q) = omega arith
  one-kind n (inr (inr (inl e))) g (inr q) = omega arith
  one-kind n (inr (inr (inr e))) g (inl q) = omega arith
  one-kind n (inr (inr (inr e))) g (inr q) = omega arith

  only_writes : (GoodWrite own f → ⊥) → Unchanged own f m d b
  only_writes h =
      tables (λ l e. (l ≡ m) × (e ≡ d)) (refl, refl) (λ heard good. idle (λ w. h (record { heard = heard; good = good; writes = w })))

  read : Reads f → Unchanged own f m d b
  read r = only_writes (λ g. one-kind (function_of f) g.writes refl r)

  abbrev Quiet : Answer → Type 0
  Quiet a = a.answer ≡ Silent → a.reply ≡ b

  abbrev Turned : ℕ → ℕ → Answer → Type 0
  Turned n k a = a.answer ≡ Refused n k → (a.m ≡ m) × (a.d ≡ d) × (a.reply ≡ b)

  quiet : Quiet (answer_of own f m d b)
  unfolding replied
  quiet =
      ways Quiet own f m d b (λ _ _ _. refl) (λ _. refl) (λ _ _ _. refl)
      (λ _ _ e. let z : ◌≡◌ {A = ℕ} 0 1 = cc in absurd (omega arith))
      (λ e. let z : ◌≡◌ {A = ℕ} 0 1 = cc in absurd (omega arith))

  turned : (n k : ℕ) → Turned n k (answer_of own f m d b)
  unfolding replied
  turned n k =
      ways (Turned n k) own f m d b (λ _ _ _. (refl, refl, refl)) (λ _. (refl, refl, refl))
      (λ _ _ e. let z : ◌≡◌ {A = ℕ} 0 1 = cc in absurd (omega arith))
      (λ _ _ e. let z : ◌≡◌ {A = ℕ} 0 1 = cc in absurd (omega arith))
      (λ e. let z : ◌≡◌ {A = ℕ} 0 1 = cc in absurd (omega arith))

  sizes : (length (answer_of own f m d b).m ≡ length m) × (length (answer_of own f m d b).d ≡ length d)
  sizes =
      tables (λ l e. (length l ≡ length m) × (length e ≡ length d)) (refl, refl)
      (λ _ _. (
        coils-after (λ (l : List ℕ). length l ≡ length m) f m refl (λ _ v. bit_length m (address_of f) v) (λ _. coils-kept m (address_of f) f (quantity_of f)),
        registers-after (λ (l : List ℤ). length l ≡ length d) f d refl (λ _. length-set d (address_of f) _) (λ _. registers-kept d (address_of f) f (quantity_of f)),
      ))

  pub served : Served own f m d b
  served = record {
    work = work;
    reads = read;
    only_writes = only_writes;
    refused = λ n k e. let t = turned n k e in ((t.0, t.1), t.2);
    silent = quiet;
    coils = sizes.0;
    registers = sizes.1;
  }
