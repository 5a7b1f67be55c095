-- The search for the end of a run: e is the word that is looked at, v are its marks, and m is what the whole search gives. Assumes nothing.
use Rattle.std.proofs.Common.{◌≡◌, ℕ, suc, ◌+◌, ◌-◌, ◌<◌, ◌≤◌, Bool, true, false, eqb, sym, ap, ◌∙◌, add-one, arith, eq-eqb, ne_eqb}
use Rattle.ec20.specs.Basics.{pick}
use Rattle.telling.specs.Spans.{other_from}

module _ (f : ℕ → ℕ) (k e m : ℕ) (h : other_from f k e (8000 - e) ≡ m) where
  other_at : (t : Bool) → e < 8000 → eqb (f e) k ≡ t → pick t (other_from f k (suc e) (8000 - suc e)) e ≡ m
  unfolding other_from
  other_at t l z =
      let q : 8000 - e ≡ suc (8000 - suc e) = omega arith in
      sym (ap (other_from f k e) q ∙ ap (λ (b : Bool). pick b (other_from f k (suc e) (8000 - suc e)) e) z) ∙ h

  pub run-found : (v : ℕ) → e < 8000 → v ≡ f e → (v ≡ k → ⊥) → e ≡ m
  run-found v l q z = other_at false l (ne_eqb (f e) k (λ x. z (q ∙ x)))

  pub run_more : (v : ℕ) → e < 8000 → v ≡ f e → v ≡ k → other_from f k (e + 1) (8000 - (e + 1)) ≡ m
  run_more v l q z = rw (add-one e) (other_at true l (eq-eqb (f e) k (sym q ∙ z)))

  pub run-done : 8000 ≤ e → e ≡ m
  unfolding other_from
  run-done l = let q : 8000 - e ≡ 0 = omega arith in ap (other_from f k e) (sym q) ∙ h
