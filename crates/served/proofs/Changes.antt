-- What writes change, coil by coil and register by register. Assumes nothing.
use Prim.Native.Nat.{ℕ, zero, suc, ◌+◌, ◌*◌, ◌≤◌, ◌<◌}
use mathlib.Core.Bool.{true, false, not, ◌&&◌}
use mathlib.Core.List.{List}
use mathlib.Core.Path.{◌≡◌, refl, sym, ap, ◌∙◌}
use native.Mathlib.Decide.{ℕ_discrete}
use native.Mathlib.Omega.{arith}
use lib.Dec.{ltb, leb, eqb}
use lib.IntN.{ℤ, pos}
use lib.ListN.{length, set}
use lib.Seq.{get_or-set_same, get_or-set_other}
use borrow.Author.Tests.{lt-ltb, eqb-true, not-true}
use Rattle.bits.proofs.Laws.{bit-range, bit-back, bit-other}
use Rattle.ec20.proofs.Tests.{differ, both, picked}
use Rattle.ec20.specs.Bits.{bit_at, with_bit}
use Rattle.ec20.specs.Devices.{ec20, meets, meets_work}
use Rattle.ec20.specs.Registers.{word_at}
use Rattle.modbus.proofs.Lengths.{coils-kept, registers-kept}
use Rattle.modbus.specs.Exceptions.{is_of_coils, meant, range_fits}
use Rattle.modbus.specs.Frame.{read_registers, write_register, write_registers, write_coil, write_coils, number_in, function_of, address_of, quantity_of}
use Rattle.modbus.specs.Writes.{coils_taken, word_of, registers_taken, coils_after, registers_after}

-- ---- WORK

-- no word of a range that passes as a write's is in WORK
apart : (a k : ℕ) → not (meets_work ec20 a k) ≡ true → (i : ℕ) → 7900 ≤ i → i < 8000 → (j : ℕ) → j < k → i ≡ a + j → ⊥
unfolding meets_work meets
apart a k h i l u j b e =
    let t : (ltb a 8000 && ltb 7900 (a + k)) ≡ true = rw (lt-ltb a 8000 (omega arith), lt-ltb 7900 (a + k) (omega arith)) in
    differ (sym t ∙ not-true _ h)

-- 6 and 16, the writes of registers
pub outside-work : (n a q : ℕ) → is_of_coils n ≡ false → eqb n read_registers ≡ false → range_fits n a q ≡ true → (i : ℕ) → 7900 ≤ i → i < 8000
    → (j : ℕ) → j < meant n q → i ≡ a + j → ⊥
unfolding range_fits
outside-work n a q c r h =
    let t : (leb (a + meant n q) 8000 && not (meets_work ec20 a (meant n q))) ≡ true = rw (c, r) at h in
    apart a (meant n q) (both (leb (a + meant n q) 8000) _ t).1

-- ---- registers

module _ (d : List ℤ) (a : ℕ) (f : List ℕ) where
  -- a word that is none of those written is as it was
  pub taken-other : (n i : ℕ) → ((j : ℕ) → j < n → i ≡ a + j → ⊥) → word_at (registers_taken d a f n) i ≡ word_at d i
  unfolding registers_taken
  taken-other zero i h = refl
  taken-other (suc n) i h =
      get_or-set_other (registers_taken d a f n) (a + n) i _ (pos 0) (λ e. h n (omega arith) e)
      ∙ taken-other n i (λ j l e. h j (omega arith) e)

  -- register j of those written is number j of the request
  pub taken_at : (n : ℕ) → a + n ≤ length d → (j : ℕ) → j < n → word_at (registers_taken d a f n) (a + j) ≡ word_of (number_in f (7 + 2 * j))
  unfolding registers_taken
  taken_at zero l j h = absurd (omega arith)
  taken_at (suc n) l j h =
      elim (ℕ_discrete j n) [
        | yes e ↦
            ap (λ (k : ℕ). word_at (registers_taken d a f (suc n)) (a + k)) e
            ∙ get_or-set_same (registers_taken d a f n) (a + n) _ (pos 0) (omega (arith, registers-kept d a f n))
            ∙ ap (λ (k : ℕ). word_of (number_in f (7 + 2 * k))) (sym e)
        | no e ↦
            get_or-set_other (registers_taken d a f n) (a + n) (a + j) _ (pos 0) (λ q. e (omega arith)) ∙ taken_at n (omega arith) j (omega arith)
      ]

-- D after a request: as it was, with one word written, or with some
pub registers-after : (P : List ℤ → Type 0) (f : List ℕ) (d : List ℤ) → P d
    → (function_of f ≡ write_register → P (set d (address_of f) (word_of (quantity_of f))))
    → (function_of f ≡ write_registers → P (registers_taken d (address_of f) f (quantity_of f)))
    → P (registers_after f d)
unfolding registers_after
registers-after P f d p one some =
    picked P (eqb (function_of f) write_register) _ _ (λ e. one (eqb-true _ _ e))
    (λ _. picked P (eqb (function_of f) write_registers) _ _ (λ e. some (eqb-true _ _ e)) (λ _. p))

-- ---- coils

module _ (m : List ℕ) (a : ℕ) (f : List ℕ) where
  bit-small : (k : ℕ) → bit_at f k < 2
  unfolding bit_at
  bit-small k = bit-range _ _

  -- a coil that is none of those written is as it was
  pub coils-other : (n i : ℕ) → ((j : ℕ) → j < n → i ≡ a + j → ⊥) → bit_at (coils_taken m a f n) i ≡ bit_at m i
  unfolding coils_taken
  coils-other zero i h = refl
  coils-other (suc n) i h =
      bit-other (coils_taken m a f n) (a + n) (bit_at f (56 + n)) (bit-small (56 + n)) i (λ e. h n (omega arith) e)
      ∙ coils-other n i (λ j l e. h j (omega arith) e)

  -- coil j of those written is bit j of the request's data
  pub coils-at : (n : ℕ) → a + n ≤ 8 * length m → (j : ℕ) → j < n → bit_at (coils_taken m a f n) (a + j) ≡ bit_at f (56 + j)
  unfolding coils_taken
  coils-at zero l j h = absurd (omega arith)
  coils-at (suc n) l j h =
      elim (ℕ_discrete j n) [
        | yes e ↦
            ap (λ (k : ℕ). bit_at (coils_taken m a f (suc n)) (a + k)) e
            ∙ bit-back (coils_taken m a f n) (a + n) (bit_at f (56 + n)) (bit-small (56 + n)) (omega (arith, coils-kept m a f n))
            ∙ ap (λ (k : ℕ). bit_at f (56 + k)) (sym e)
        | no e ↦
            bit-other (coils_taken m a f n) (a + n) (bit_at f (56 + n)) (bit-small (56 + n)) (a + j) (λ q. e (omega arith))
            ∙ coils-at n (omega arith) j (omega arith)
      ]

-- M after a request
pub coils-after : (P : List ℕ → Type 0) (f m : List ℕ) → P m
    → (function_of f ≡ write_coil → (v : ℕ) → P (with_bit m (address_of f) v))
    → (function_of f ≡ write_coils → P (coils_taken m (address_of f) f (quantity_of f)))
    → P (coils_after f m)
unfolding coils_after
coils-after P f m p one some =
    picked P (eqb (function_of f) write_coil) _ _ (λ e. one (eqb-true _ _ e) _)
    (λ _. picked P (eqb (function_of f) write_coils) _ _ (λ e. some (eqb-true _ _ e)) (λ _. p))
