-- D tables exchanged twice. Assumes nothing.
use Prim.Native.Nat.{ℕ, ◌<◌}
use mathlib.Core.List.{List}
use mathlib.Core.Path.{◌≡◌, sym, ap, subst, ◌∙◌}
use lib.IntN.{ℤ, pos}
use lib.ListN.{length}
use lib.Seq.{ext_get_or}
use Rattle.ec20.proofs.Exchanges.{exchange-length, exchange-at}
use Rattle.ec20.specs.Exchange.{exchange_by}
use Rattle.ec20.specs.Registers.{word_at}

-- by two renamings that keep the table's numbers
module _ (σ τ : ℕ → ℕ) (d : List ℤ) (keeps-σ : (i : ℕ) → i < length d → σ i < length d) where
  -- word i is then word τ (σ i) of the table
  pub twice-at : (i : ℕ) → i < length d → word_at (exchange_by σ (exchange_by τ d)) i ≡ word_at d (τ (σ i))
  twice-at i h =
      exchange-at σ (exchange_by τ d) i (subst (λ (n : ℕ). i < n) (sym (exchange-length τ d)) h) ∙ exchange-at τ d (σ i) (keeps-σ i h)

  pub twice-length : length (exchange_by σ (exchange_by τ d)) ≡ length d
  twice-length = exchange-length σ (exchange_by τ d) ∙ exchange-length τ d

-- that commute: in either order
pub tables-commute : (σ τ : ℕ → ℕ) (d : List ℤ) → ((i : ℕ) → i < length d → σ i < length d) → ((i : ℕ) → i < length d → τ i < length d)
    → ((i : ℕ) → τ (σ i) ≡ σ (τ i)) → exchange_by σ (exchange_by τ d) ≡ exchange_by τ (exchange_by σ d)
tables-commute σ τ d keeps-σ keeps-τ c =
    let size = twice-length σ τ d keeps-σ in
    ext_get_or (pos 0) _ _ (size ∙ sym (twice-length τ σ d keeps-τ))
    (λ i l.
    let h : i < length d = subst (λ (n : ℕ). i < n) size l in
    twice-at σ τ d keeps-σ i h ∙ ap (word_at d) (c i) ∙ sym (twice-at τ σ d keeps-τ i h))
