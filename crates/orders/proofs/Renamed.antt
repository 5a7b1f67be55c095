-- Records renamed twice: by renamings that commute, and by one that is its own inverse. Assumes nothing.
use Prim.Native.Nat.{ℕ}
use mathlib.Core.Bool.{true}
use mathlib.Core.Path.{◌≡◌, sym, ap, ◌∙◌}
use Rattle.ec20.proofs.InD.{in-D-value}
use Rattle.ec20.specs.declared.Operand.{Operand}
use Rattle.ec20.specs.declared.Rec.{Rec}
use Rattle.ec20.specs.Operands.{in_d, start_of}
use Rattle.moving.proofs.Operand.{in-or-not, rename-D, rename-other}
use Rattle.moving.specs.Rename.{rename_operand, rename_rec}

-- an operand in D, renamed by σ and then by τ
two-D : (σ τ : ℕ → ℕ) (o : Operand) → in_d o ≡ true
    → rename_operand τ (rename_operand σ o) ≡ record { kind = o.kind; group = o.group; value = τ (σ (start_of o)) }
unfolding start_of
two-D σ τ o k =
    ap (rename_operand τ) (rename-D σ o k)
    ∙ rename-D τ (record { kind = o.kind; group = o.group; value = σ (start_of o) }) (in-D-value o (σ (start_of o)) ∙ k)

-- ---- by two that commute

module _ (σ τ : ℕ → ℕ) (c : (i : ℕ) → τ (σ i) ≡ σ (τ i)) where
  operand-commute : (o : Operand) → rename_operand τ (rename_operand σ o) ≡ rename_operand σ (rename_operand τ o)
  operand-commute o =
      in-or-not o
      (λ k. two-D σ τ o k ∙ ap (λ (n : ℕ). record { kind = o.kind; group = o.group; value = n }) (c (start_of o)) ∙ sym (two-D τ σ o k))
      (λ k. ap (rename_operand τ) (rename-other σ o k) ∙ rename-other τ o k ∙ sym (ap (rename_operand σ) (rename-other τ o k) ∙ rename-other σ o k))

  pub rec-commute : (r : Rec) → rename_rec τ (rename_rec σ r) ≡ rename_rec σ (rename_rec τ r)
  unfolding rename_rec
  rec-commute r = rw (operand-commute r.first, operand-commute r.second, operand-commute r.third)

-- ---- by one that is its own inverse

module _ (σ : ℕ → ℕ) (twice : (i : ℕ) → σ (σ i) ≡ i) where
  operand-twice : (o : Operand) → rename_operand σ (rename_operand σ o) ≡ o
  unfolding start_of
  operand-twice o =
      in-or-not o
      (λ k. two-D σ σ o k ∙ ap (λ (n : ℕ). record { kind = o.kind; group = o.group; value = n }) (twice (start_of o)))
      (λ k. ap (rename_operand σ) (rename-other σ o k) ∙ rename-other σ o k)

  pub rec-twice : (r : Rec) → rename_rec σ (rename_rec σ r) ≡ r
  unfolding rename_rec
  rec-twice r = rw (operand-twice r.first, operand-twice r.second, operand-twice r.third)
