-- A word that no target extent of an instruction holds is after the instruction what it was.
use Prim.Native.Nat.{ℕ, ◌+◌, ◌*◌, ◌/◌, ◌≤◌, ◌<◌}
use mathlib.Core.Bool.{Bool, true, false}
use mathlib.Core.List.{List}
use mathlib.Core.Path.{◌≡◌, sym, ap, subst, ◌∙◌}
use native.Mathlib.Omega.{arith}
use lib.Dec.{eqb}
use lib.ListN.{set}
use lib.Seq.{get_or-set_other}
use lib.IntN.{ℤ, pos}
use borrow.Author.Tests.{eqb-true}
use Rattle.ec20.specs.declared.Operand.{Operand}
use Rattle.ec20.specs.declared.Outcome.{Outcome}
use Rattle.ec20.specs.declared.Instr.{Instr}
use Rattle.ec20.specs.declared.Instr.TheVariants.{Nop, Contact, Compare, Join, Branch, Coil, Timer, For, Next, Jump, Label, End, Word}
use Rattle.ec20.specs.Basics.{pick}
use Rattle.ec20.specs.Numbers.{half}
use Rattle.ec20.specs.Operands.{in_d, start_of}
use Rattle.ec20.specs.Registers.{word_at, high_word, low_word, with_pair, with_number}
use Rattle.ec20.specs.Memory.{Memory, store_of, following}
use Rattle.ec20.specs.Words.{compute_of, store_all}
use Rattle.ec20.specs.Step.{width_of}
use Rattle.ec20.proofs.Tests.{picked}
use Rattle.moving.specs.Rename.{words_of, written_by}
use Rattle.moving.proofs.Operand.{in-or-not, store-D, store_kept, follow-in, follow-start}
use Rattle.moving.proofs.Outcome.{written_one, written-two}
use Rattle.moving.proofs.Keeps.{Keeps}

-- word i is none of the n words from number a on
abbrev pub Off : ℕ → ℕ → ℕ → Type 0
Off i n a = (j : ℕ) → j < n → i ≡ a + j → ⊥

-- if the operand is in D, word i is none of its n words
abbrev pub Spares : ℕ → ℕ → Operand → Type 0
Spares i n o = in_d o ≡ true → Off i n (start_of o)

-- the instruction does not write word i
abbrev pub Spared : ℕ → Instr → Type 0
Spared i Nop = Unit {0}
Spared i (Contact n o) = Unit {0}
Spared i (Compare n a b) = Unit {0}
Spared i (Join n) = Unit {0}
Spared i (Branch n) = Unit {0}
Spared i (Coil n o) = Unit {0}
Spared i (Timer k c) = Unit {0}
Spared i (For c) = Unit {0}
Spared i Next = Unit {0}
Spared i (Jump l) = Unit {0}
Spared i (Label l) = Unit {0}
Spared i End = Unit {0}
Spared i (Word n a b t) = Spares i (written_by n) t

module _ (i : ℕ) where
  pair-off : (d : List ℤ) (a : ℕ) (z : ℤ) → Off i 2 a → word_at (with_pair d a z) i ≡ word_at d i
  unfolding with_pair
  pair-off d a z h =
      get_or-set_other (set d a (high_word z)) (a + 1) i (low_word z) (pos 0) (h 1 (omega arith))
      ∙ get_or-set_other d a i (high_word z) (pos 0) (λ q. h 0 (omega arith) (omega arith))

  number_at : (d : List ℤ) (a : ℕ) (z : ℤ) (b : Bool) → Off i (pick b 16 32 / 16) a → word_at (pick b (set d a z) (with_pair d a z)) i ≡ word_at d i
  number_at d a z true h = get_or-set_other d a i z (pos 0) (λ q. h 0 (omega arith) (omega arith))
  number_at d a z false h = pair-off d a z h

  -- a number stored elsewhere, for every width
  number-off : (w : ℕ) (d : List ℤ) (a : ℕ) (z : ℤ) → Off i (words_of w) a → word_at (with_number w d a z) i ≡ word_at d i
  unfolding with_number
  number-off w d a z h = number_at d a z (eqb w 16) h

  -- word i of the D table is v
  module _ (v : ℤ) where
    abbrev Holds : Memory → Type 0
    Holds c = word_at c.d i ≡ v

    store-spares : (w : ℕ) (o : Operand) (z : ℤ) (c : Memory) → Spares i (words_of w) o → Holds c → Holds (store_of w o z c)
    store-spares w o z c s h =
        in-or-not o
        (λ e. ap (λ (k : Memory). word_at k.d i) (store-D w o z c e) ∙ number-off w c.d (start_of o) z (s e) ∙ h)
        (λ e. ap (λ (l : List ℤ). word_at l i) (store_kept w o z c e) ∙ h)

    -- the words of the target that follows are the later ones
    later : (w : ℕ) (t : Operand) → Spares i (2 * words_of w) t → Spares i (words_of w) (following w t)
    later w t s k j l e =
        let f : start_of (following w t) ≡ start_of t + words_of w = follow-start w t in
        s (sym (follow-in w t) ∙ k) (words_of w + j) (omega arith) (omega arith)

    store-all-spares : (w : ℕ) (t : Operand) (r : Outcome) (c : Memory) → Spares i (words_of w) t → (r.two ≡ 1 → Spares i (2 * words_of w) t) → Holds c
        → Holds (store_all w t r c)
    unfolding store_all
    store-all-spares w t r c a b h =
        let c1 = store_of w t r.value c in
        let one : Holds c1 = store-spares w t r.value c a h in
        let two : Holds (pick (eqb r.two 1) (store_of w (following w t) r.second c1) c1) =
        picked Holds (eqb r.two 1) _ _
        (λ q. store-spares w (following w t) r.second c1 (later w t (b (eqb-true _ _ q))) one)
        (λ _. one) in
        picked Holds (eqb r.flags 1) _ _ (λ _. two) (λ _. two)

    -- SPARED: an instruction that does not write word i keeps it
    pub spared-keeps : (c : Instr) → Spared i c → Keeps (λ (l : List ℤ). word_at l i ≡ v) c
    spared-keeps Nop s = tt
    spared-keeps (Contact n o) s = tt
    spared-keeps (Compare n a b) s = tt
    spared-keeps (Join n) s = tt
    spared-keeps (Branch n) s = tt
    spared-keeps (Coil n o) s = tt
    spared-keeps (Timer k c) s = tt
    spared-keeps (For c) s = tt
    spared-keeps Next s = tt
    spared-keeps (Jump l) s = tt
    spared-keeps (Label l) s = tt
    spared-keeps End s = tt
    spared-keeps (Word n a b t) s = λ x y c h.
        let w = written_by n in
        let r = compute_of n (half (width_of n)) x y in
        let m : words_of (width_of n) ≤ w = written_one n in
        store-all-spares (width_of n) t r c (λ k j l. s k j (omega arith))
        (λ q k. subst (λ (e : ℕ). Off i e (start_of t)) (written-two n (half (width_of n)) x y q) (s k)) h
