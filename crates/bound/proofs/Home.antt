-- Where a record stands.
use Prim.Native.Nat.{ℕ, suc, ◌+◌, ◌*◌, ◌<◌, ◌≤◌}
use mathlib.Core.List.{◌∷◌}
use mathlib.Core.Path.{◌≡◌, refl, sym, ◌∙◌}
use native.Mathlib.Omega.{arith}
use native.Mathlib.Decide.{ℕ_discrete, dec_lt}
use Rattle.ec20.specs.declared.Control.TheVariants.{Closes, Ends}
use Rattle.ec20.specs.Control.{Controls}
use Rattle.ec20.specs.Labels.{opens_of}
use Rattle.bound.proofs.Rows.{Seq, empty, plain, loop, low}
use Rattle.bound.proofs.Opens.{open-steady, open_for, loop-opens}

module _ (code : Controls) (count : ℕ) where
  -- where a record stands: in a row that goes on to END, or to the NEXT of the loop h
  pub data Home : ℕ → Type 0 where
    outside : {d k e w : ℕ} → Seq code d k e w → code e ≡ Ends → e + 1 ≡ count → Home k
    inside : {d k e w : ℕ} (h : ℕ) → Seq code d k e w → code e ≡ Closes → e < count → opens_of code k ≡ h ∷ opens_of code h → h < k → Home k

  -- each record of a row but a NEXT has a home, if those at the level of the row have
  pub locate : {d s e w : ℕ} → Seq code d s e w → e < count → ((k w' : ℕ) → Seq code d k e w' → opens_of code k ≡ opens_of code s → s ≤ k → Home k)
      → (k : ℕ) → s ≤ k → k < e → (code k ≡ Closes → ⊥) → Home k
  locate empty i mk k p q f = absurd (omega arith)
  locate {s = s} (plain {w = w} o t) i mk k p q f =
      elim (ℕ_discrete s k) [
        | yes a ↦ rw a at (mk s (suc w) (plain o t) refl (omega arith))
        | no a ↦ locate t i (λ j u r b c. mk j u r (b ∙ open-steady code s o) (omega arith)) k (omega arith) q f
      ]
  locate {s = s} {e = e} (loop {b = b} {n = n} {v = v} {w = w} g x r y t) i mk k p q f =
      let l : b + 1 ≤ e = low t in
      let m : s + 1 ≤ b = low y in
      elim (ℕ_discrete s k) [
        | yes a ↦ rw a at (mk s (suc (n * suc v + w)) (loop g x r y t) refl (omega arith))
        | no a ↦
            elim (dec_lt k b) [
              | yes z ↦
                  locate y (omega arith) (λ j u h c d. inside s h x (omega arith) (c ∙ open_for code s n g) (omega arith)) k (omega arith) z f
              | no z ↦
                  elim (ℕ_discrete k b) [
                    | yes c ↦ absurd (f (rw (sym c) at x))
                    | no c ↦ locate t i (λ j u h a d. mk j u h (a ∙ loop-opens code g x y) (omega arith)) k (omega arith) q f
                  ]
            ]
      ]
