-- One turn of a loop that looks for the first record at fault: the search from record i on. Assumes nothing.
use mathlib.Core.Path.{◌≡◌, refl, sym, ap, ◌∙◌}
use Prim.Native.Nat.{ℕ, zero, suc, ◌+◌, ◌-◌, ◌<◌, ◌≤◌}
use native.Mathlib.Numerals.{add-one}
use native.Mathlib.Omega.{arith}
use Rattle.ec20.specs.Basics.{judged, first_fault}
use Rattle.ec20.specs.Judged.{Judged}
use Rattle.ec20.specs.Judged.{Fine, Fault}

judged-bad : (m k : ℕ) (rest : Judged) → (m ≡ 0 → ⊥) → judged m k rest ≡ Fault m k
judged-bad zero k rest h = absurd (h refl)
judged-bad (suc m) k rest h = refl

module _ (fault : ℕ → ℕ) (i n : ℕ) where
  step : i < n → first_fault fault i (n - i) ≡ judged (fault i) i (first_fault fault (i + 1) (n - (i + 1)))
  unfolding first_fault
  step h = let e : n - i ≡ suc (n - (i + 1)) = omega arith in rw (e, add-one)

  -- record i is not at fault: on to the next
  pub turn : {m : ℕ} → i < n → m ≡ fault i → m ≡ 0 → first_fault fault i (n - i) ≡ first_fault fault (i + 1) (n - (i + 1))
  turn h e z = step h ∙ ap (λ (x : ℕ). judged x i (first_fault fault (i + 1) (n - (i + 1)))) (sym e ∙ z)

  -- record i is at fault: that is the answer
  pub found : {m : ℕ} → i < n → m ≡ fault i → (m ≡ 0 → ⊥) → Fault m i ≡ first_fault fault i (n - i)
  found {m} h e z =
      sym (step h ∙ ap (λ (x : ℕ). judged x i (first_fault fault (i + 1) (n - (i + 1)))) (sym e)
      ∙ judged-bad m i (first_fault fault (i + 1) (n - (i + 1))) z)

  -- no record is left
  pub done : n ≤ i → Fine ≡ first_fault fault i (n - i)
  unfolding first_fault
  done h = let e : n - i ≡ 0 = omega arith in rw e
