-- The exchanged table, read and written. Assumes of σ that it is a swap of the table's numbers.
use Prim.Native.Nat.{ℕ, ◌≤◌, ◌<◌}
use mathlib.Core.Path.{◌≡◌, sym, ap, subst, ◌∙◌}
use mathlib.Core.List.{List}
use native.Mathlib.Omega.{arith}
use native.Mathlib.Decide.{dec_lt, ℕ_discrete}
use lib.ListN.{set, length, length-set, get_or-eq_default}
use lib.Seq.{ext_get_or, get_or-set_same, get_or-set_other, set_out}
use lib.IntN.{ℤ, pos}
use Rattle.ec20.specs.Exchange.{exchange_by}
use Rattle.ec20.specs.Registers.{word_at}
use Rattle.ec20.proofs.Exchanges.{exchange-length, exchange-at}
use Rattle.moving.specs.Rename.{Swap}

module _ (σ : ℕ → ℕ) where
  -- a number past the end stays past the end
  out_stays : (n : ℕ) → Swap σ n → (i : ℕ) → n ≤ i → n ≤ σ i
  out_stays n w i h =
      elim (dec_lt (σ i) n) [
        | yes g ↦ absurd (let q : i < n = subst (λ (x : ℕ). x < n) (w.twice i) (w.stays (σ i) g) in omega arith)
        | no g ↦ omega arith
      ]

  module _ (d : List ℤ) (w : Swap σ (length d)) where
    past : (i : ℕ) → length d ≤ i → length (exchange_by σ d) ≤ σ i
    past i e = subst (λ (k : ℕ). k ≤ σ i) (sym (exchange-length σ d)) (out_stays (length d) w i e)

    -- READ: word σ i of the exchanged table is word i of the table, for every i
    pub read : (i : ℕ) → word_at (exchange_by σ d) (σ i) ≡ word_at d i
    read i =
        elim (dec_lt i (length d)) [
          | yes h ↦ exchange-at σ d (σ i) (w.stays i h) ∙ ap (word_at d) (w.twice i)
          | no h ↦
              let e : length d ≤ i = omega arith in
              get_or-eq_default (exchange_by σ d) (pos 0) (past i e) ∙ sym (get_or-eq_default d (pos 0) e)
        ]

    -- word j after a write at i, in the table: at σ i what was written, elsewhere as it was
    at-write : (i : ℕ) (v : ℤ) → i < length d → (j : ℕ) → j < length d → Dec (j ≡ σ i)
        → word_at (exchange_by σ (set d i v)) j ≡ word_at (set (exchange_by σ d) (σ i) v) j
    at-write i v h j l (yes e) =
        let e' : σ j ≡ i = ap σ e ∙ w.twice i in
        let l' : j < length (set d i v) = subst (λ (k : ℕ). j < k) (sym (length-set d i v)) l in
        let l'' : j < length (exchange_by σ d) = subst (λ (k : ℕ). j < k) (sym (exchange-length σ d)) l in
        exchange-at σ (set d i v) j l'
        ∙ ap (word_at (set d i v)) e'
        ∙ get_or-set_same d i v (pos 0) h
        ∙ sym (get_or-set_same (exchange_by σ d) j v (pos 0) l'')
        ∙ ap (λ (k : ℕ). word_at (set (exchange_by σ d) k v) j) e
    at-write i v h j l (no n) =
        let l' : j < length (set d i v) = subst (λ (k : ℕ). j < k) (sym (length-set d i v)) l in
        exchange-at σ (set d i v) j l'
        ∙ get_or-set_other d i (σ j) v (pos 0) (λ q. n (sym (w.twice j) ∙ ap σ q))
        ∙ sym (exchange-at σ d j l)
        ∙ sym (get_or-set_other (exchange_by σ d) (σ i) j v (pos 0) n)

    -- WRITE: a word written and the table then exchanged is the table exchanged and the renamed word then written, for every i
    pub write : (i : ℕ) (v : ℤ) → exchange_by σ (set d i v) ≡ set (exchange_by σ d) (σ i) v
    write i v =
        elim (dec_lt i (length d)) [
          | yes h ↦
              let e : length (exchange_by σ (set d i v)) ≡ length d = exchange-length σ (set d i v) ∙ length-set d i v in
              ext_get_or (pos 0) _ _ (e ∙ sym (exchange-length σ d) ∙ sym (length-set (exchange_by σ d) (σ i) v))
              (λ j l. at-write i v h j (subst (λ (k : ℕ). j < k) e l) (ℕ_discrete j (σ i)))
          | no h ↦
              let e : length d ≤ i = omega arith in
              ap (exchange_by σ) (set_out d i v e) ∙ sym (set_out (exchange_by σ d) (σ i) v (past i e))
        ]
