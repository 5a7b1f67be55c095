-- Numbers that name no instruction. Assumes nothing.
use Rattle.std.proofs.Common.{◌≡◌, ℕ, suc, ◌-◌, ◌≤◌, List, [], ◌∷◌, refl, ap, ◌∙◌, arith, get_or}
use Rattle.std.specs.Prelude.{⊤}
use native.Mathlib.Decide.{ℕ_discrete}

-- n is the place of no name, where the first of them has the place k
abbrev pub Nameless : List (List ℕ) → ℕ → ℕ → Type 0
Nameless [] k n = ⊤
Nameless ([] ∷ s) k n = Nameless s (suc k) n
Nameless ((b ∷ a) ∷ s) k n = (n ≡ k → ⊥) × Nameless s (suc k) n

past : (x : List ℕ) (s : List (List ℕ)) (k n : ℕ) → k ≤ n → (n ≡ k → ⊥) → get_or s (n - suc k) [] ≡ [] → get_or (x ∷ s) (n - k) [] ≡ []
past x s k n l h e = let q : n - k ≡ suc (n - suc k) = omega (arith, h) in ap (λ (i : ℕ). get_or (x ∷ s) i []) q ∙ e

pub nameless : (s : List (List ℕ)) (k n : ℕ) → k ≤ n → Nameless s k n → get_or s (n - k) [] ≡ []
nameless [] k n l h = refl
nameless ([] ∷ s) k n l h =
    elim (ℕ_discrete n k) [
      | yes e ↦ let q : n - k ≡ 0 = omega arith in ap (λ (i : ℕ). get_or ([] ∷ s) i []) q
      | no e ↦ past [] s k n l e (nameless s (suc k) n (omega (arith, e)) h)
    ]
nameless ((b ∷ a) ∷ s) k n l h = past (b ∷ a) s k n l h.0 (nameless s (suc k) n (omega (arith, h.0)) h.1)
