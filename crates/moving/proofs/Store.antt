-- A target written on the exchanged table, renamed, is the target written on the table and the table then exchanged. The D table keeps its length.
use Prim.Native.Nat.{ℕ, ◌+◌, ◌*◌, ◌/◌, ◌<◌}
use mathlib.Core.Bool.{Bool, true, false}
use mathlib.Core.List.{List}
use mathlib.Core.Path.{◌≡◌, refl, sym, ap, subst, ◌∙◌}
use native.Mathlib.Omega.{arith}
use lib.Dec.{eqb}
use lib.ListN.{length}
use lib.IntN.{ℤ}
use borrow.Author.Tests.{eqb-true}
use Rattle.ec20.specs.declared.Operand.{Operand}
use Rattle.ec20.specs.declared.Outcome.{Outcome}
use Rattle.ec20.specs.Basics.{pick}
use Rattle.ec20.specs.Operands.{in_d, start_of}
use Rattle.ec20.specs.Registers.{with_number}
use Rattle.ec20.specs.Memory.{Memory, with_d, store_of, following}
use Rattle.ec20.specs.Words.{store_all}
use Rattle.ec20.proofs.Tests.{picked}
use Rattle.ec20.specs.Exchange.{exchange_by}
use Rattle.moving.specs.Rename.{Swap, rename_operand, ex_memory, Along, words_of}
use Rattle.moving.proofs.Numbers.{length-number, number-write}
use Rattle.moving.proofs.Operand.{pick-sim, in-or-not, rename-other, rename-in, rename-start, store-D, store_other, store_kept}
use Rattle.moving.proofs.Operand.{follow-in, follow-start, follow-D, follow-other}

-- the D table is of n words
abbrev Long : ℕ → Memory → Type 0
Long n c = length c.d ≡ n

-- a store keeps the D table's length
pub length-store : (w : ℕ) (o : Operand) (z : ℤ) (c : Memory) → length (store_of w o z c).d ≡ length c.d
length-store w o z c =
    in-or-not o
    (λ e. ap (λ (k : Memory). length k.d) (store-D w o z c e) ∙ length-number w c.d (start_of o) z)
    (λ e. ap length (store_kept w o z c e))

pub length-store-all : (w : ℕ) (t : Operand) (r : Outcome) (c : Memory) → length (store_all w t r c).d ≡ length c.d
unfolding store_all
length-store-all w t r c =
    let c1 = store_of w t r.value c in
    let one : length c1.d ≡ length c.d = length-store w t r.value c in
    let two : Long (length c.d) (pick (eqb r.two 1) (store_of w (following w t) r.second c1) c1) =
    picked (Long (length c.d)) (eqb r.two 1) _ _ (λ _. length-store w (following w t) r.second c1 ∙ one) (λ _. one) in
    picked (Long (length c.d)) (eqb r.flags 1) _ _ (λ _. two) (λ _. two)

module _ (σ : ℕ → ℕ) (w : ℕ) where
  -- STORE: for every width
  pub store-sim : (o : Operand) (z : ℤ) (c : Memory) → Along σ (words_of w) o → Swap σ (length c.d)
      → store_of w (rename_operand σ o) z (ex_memory σ c) ≡ ex_memory σ (store_of w o z c)
  unfolding Along
  store-sim o z c a h =
      in-or-not o
      (λ e.
      store-D w (rename_operand σ o) z (ex_memory σ c) (rename-in σ o ∙ e)
      ∙ ap (λ (i : ℕ). with_d c (with_number w (exchange_by σ c.d) i z)) (rename-start σ o e)
      ∙ ap (with_d c) (number-write σ c.d h (start_of o) w z (a e))
      ∙ ap (ex_memory σ) (sym (store-D w o z c e)))
      (λ e.
      ap (λ (q : Operand). store_of w q z (ex_memory σ c)) (rename-other σ o e)
      ∙ store_other w o z c (exchange_by σ c.d) e
      ∙ ap (λ (l : List ℤ). with_d (store_of w o z c) (exchange_by σ l)) (sym (store_kept w o z c e)))

  words-some : (b : Bool) → 0 < pick b 16 32 / 16
  words-some true = omega arith
  words-some false = omega arith

  -- where the words of two numbers go along, what follows the renamed target is what follows the target, renamed, and its words go along
  follow-same : (o : Operand) → Along σ (2 * words_of w) o → following w (rename_operand σ o) ≡ rename_operand σ (following w o)
  unfolding Along
  follow-same o a =
      let s : 0 < words_of w = words-some (eqb w 16) in
      in-or-not o (λ e. follow-D w o σ e (a e (words_of w) (omega arith))) (follow-other w o σ)

  follow-along : (o : Operand) → Along σ (2 * words_of w) o → Along σ (words_of w) (following w o)
  unfolding Along
  follow-along o a e j l =
      let s : 0 < words_of w = words-some (eqb w 16) in
      let k : in_d o ≡ true = sym (follow-in w o) ∙ e in
      let q : start_of o + words_of w + j ≡ start_of o + (words_of w + j) = omega arith in
      let x : σ (start_of o + (words_of w + j)) ≡ σ (start_of o) + (words_of w + j) = a k (words_of w + j) (omega arith) in
      let y : σ (start_of o + words_of w) ≡ σ (start_of o) + words_of w = a k (words_of w) (omega arith) in
      let g : σ (start_of o + (words_of w + j)) ≡ σ (start_of o + words_of w) + j = omega arith in
      subst (λ (i : ℕ). σ (i + j) ≡ σ i + j) (sym (follow-start w o)) (ap σ q ∙ g)

  -- an outcome stored: the value, the second value after it if there are two, the flags
  pub store-all-sim : (t : Operand) (r : Outcome) (c : Memory) → Along σ (words_of w) t → (r.two ≡ 1 → Along σ (2 * words_of w) t) → Swap σ (length c.d)
      → store_all w (rename_operand σ t) r (ex_memory σ c) ≡ ex_memory σ (store_all w t r c)
  unfolding store_all
  store-all-sim t r c a b h =
      let c1 = store_of w t r.value c in
      let d1 = store_of w (rename_operand σ t) r.value (ex_memory σ c) in
      let e1 : d1 ≡ ex_memory σ c1 = store-sim t r.value c a h in
      let h1 : Swap σ (length c1.d) = subst (Swap σ) (sym (length-store w t r.value c)) h in
      let e2 : pick (eqb r.two 1) (store_of w (following w (rename_operand σ t)) r.second d1) d1
      ≡ ex_memory σ (pick (eqb r.two 1) (store_of w (following w t) r.second c1) c1) =
      pick-sim (ex_memory σ) (eqb r.two 1) _ _ _ _
      (λ q.
      let b2 = b (eqb-true _ _ q) in
      rw (e1, follow-same t b2) (store-sim (following w t) r.second c1 (follow-along t b2) h1))
      (λ _. e1) in
      rw e2 (pick-sim (ex_memory σ) (eqb r.flags 1) _ _ _ _ (λ _. refl) (λ _. refl))
