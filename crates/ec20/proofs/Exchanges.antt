-- A table exchanged by a renaming: its length, its words, and that it is as it was when that is done twice. Assumes nothing.
use Prim.Native.Nat.{ℕ, ◌+◌, ◌<◌}
use mathlib.Core.List.{List}
use mathlib.Core.Path.{◌≡◌, sym, ap, subst, ◌∙◌}
use native.Mathlib.Omega.{arith}
use lib.IntN.{ℤ, pos}
use lib.ListN.{length}
use lib.Seq.{ext_get_or}
use Rattle.ec20.proofs.MovedLaws.{get_d-from, length_from}
use Rattle.ec20.specs.Exchange.{exchange_by}
use Rattle.ec20.specs.Registers.{word_at}

module _ (σ : ℕ → ℕ) where
  pub exchange-length : (d : List ℤ) → length (exchange_by σ d) ≡ length d
  unfolding exchange_by
  exchange-length d = length_from _ 0 (length d)

  -- word i of the exchanged table is word σ i of the table
  pub exchange-at : (d : List ℤ) (i : ℕ) → i < length d → word_at (exchange_by σ d) i ≡ word_at d (σ i)
  unfolding exchange_by
  exchange-at d i h =
      let e : 0 + i ≡ i = omega arith in
      get_d-from (λ k. word_at d (σ k)) 0 (length d) i (pos 0) h ∙ ap (λ (k : ℕ). word_at d (σ k)) e

  -- by a renaming that is its own inverse and keeps the table's numbers
  pub exchanged-back : (d : List ℤ) → ((i : ℕ) → σ (σ i) ≡ i) → ((i : ℕ) → i < length d → σ i < length d) → exchange_by σ (exchange_by σ d) ≡ d
  exchanged-back d twice stays =
      let one : length (exchange_by σ d) ≡ length d = exchange-length d in
      let two : length (exchange_by σ (exchange_by σ d)) ≡ length d = exchange-length (exchange_by σ d) ∙ one in
      ext_get_or (pos 0) _ _ two
      (λ i l.
      let k : i < length d = subst (λ (n : ℕ). i < n) two l in
      let k' : i < length (exchange_by σ d) = subst (λ (n : ℕ). i < n) (sym one) k in
      exchange-at (exchange_by σ d) i k' ∙ exchange-at d (σ i) (stays i k) ∙ ap (word_at d) (twice i))
