-- "Each is given exactly when its line holds and nothing ahead of it in this order does": line by line, for every device and file.
use Prim.Native.Nat.{ℕ, zero, suc, ◌≤◌}
use mathlib.Core.List.{List}
use mathlib.Core.Logic.{◌↔◌}
use mathlib.Core.Path.{◌≡◌, refl, sym, ap, subst, ◌∙◌}
use native.Mathlib.Omega.{arith}
use Rattle.std.specs.Prelude.{Err, Ok}
use Rattle.ec20.specs.Verdict.{Verdict}
use Rattle.ec20.specs.Verdict.{Accepted, Refused}
use Rattle.ec20.specs.Devices.{Device}
use Rattle.ec20.specs.File.{count_of}
use Rattle.ec20.specs.Code.{program_of}
use Rattle.ec20.specs.Check.{w_of, check_for}
use Rattle.refusals.specs.Frame.{Line1}
use Rattle.refusals.specs.Records.{Line2, Line3, Line4}
use Rattle.refusals.specs.Steps.{WOf, Line8}
use Rattle.refusals.specs.Table.{Told, told_1, told_2, told_3, told_4, told_5, told_6, told_7, told_8, accepted}
use Rattle.refusals.specs.Table.{record_at, Not1, Not2to4, Not5, Not6, Not7, Not8, First2to4, First5, First6, First7}
use Rattle.refusals.proofs.Check.{steps-there, w-exactly, told, answer}
use Rattle.refusals.proofs.Steps.{w-is}

-- what each number says
abbrev By : Device → List ℕ → ℕ → ℕ → Type 0
By v f zero k = ⊥
By v f (suc zero) k = (k ≡ 0) × Line1 f
By v f (suc (suc zero)) k = Not1 f × First2to4 v f k × Line2 (record_at f k)
By v f (suc (suc (suc zero))) k = Not1 f × First2to4 v f k × (Line2 (record_at f k) → ⊥) × Line3 v (record_at f k)
By v f (suc (suc (suc (suc zero)))) k =
    Not1 f × First2to4 v f k × (Line2 (record_at f k) → ⊥) × (Line3 v (record_at f k) → ⊥) × Line4 v (record_at f k)
By v f (suc (suc (suc (suc (suc zero))))) k = Not1 f × Not2to4 v f × First5 f k
By v f (suc (suc (suc (suc (suc (suc zero)))))) k = Not1 f × Not2to4 v f × Not5 f × First6 f k
By v f (suc (suc (suc (suc (suc (suc (suc zero))))))) k = Not1 f × Not2to4 v f × Not5 f × Not6 f × First7 f k
By v f (suc (suc (suc (suc (suc (suc (suc (suc zero)))))))) k =
    (k ≡ 0) × Not1 f × Not2to4 v f × Not5 f × Not6 f × Not7 f × Line8 (program_of f)
By v f (suc (suc (suc (suc (suc (suc (suc (suc (suc n))))))))) k = ⊥

abbrev Says : Device → List ℕ → Verdict → Type 0
Says v f (Ok a) = (a.records ≡ count_of f) × (a.steps ≡ w_of (program_of f)) × Not1 f × Not2to4 v f × Not5 f × Not6 f × Not7 f × Not8 f
Says v f (Err r) = By v f r.number r.at

says : {v : Device} {f : List ℕ} {r : Verdict} → Told v f r → Says v f r
says (told_1 l) = (refl, l)
says (told_2 a b c) = (a, b, c)
says (told_3 a b c d) = (a, b, c, d)
says (told_4 a b c d e) = (a, b, c, d, e)
says (told_5 a b c) = (a, b, c)
says (told_6 a b c d) = (a, b, c, d)
says (told_7 a b c d e) = (a, b, c, d, e)
says (told_8 a b c d e l) = (refl, a, b, c, d, e, l)
says {f = f} (accepted a b c d e l s) = (refl, sym (w-is (program_of f) s), a, b, c, d, e, l)

module _ (v : Device) (f : List ℕ) where
  holds : {r : Verdict} → check_for v f ≡ r → Says v f r
  holds e = subst (Says v f) e (says (told v f))

  pub refused-1 : (k : ℕ) → (check_for v f ≡ Refused 1 k) ↔ ((k ≡ 0) × Line1 f)
  refused-1 k = (holds, λ c. answer v f (told_1 c.1) ∙ ap (Refused 1) (sym c.0))

  pub refused-2 : (k : ℕ) → (check_for v f ≡ Refused 2 k) ↔ (Not1 f × First2to4 v f k × Line2 (record_at f k))
  refused-2 k = (holds, λ c. answer v f (told_2 c.0 c.1 c.2))

  pub refused-3 : (k : ℕ) → (check_for v f ≡ Refused 3 k) ↔ (Not1 f × First2to4 v f k × (Line2 (record_at f k) → ⊥) × Line3 v (record_at f k))
  refused-3 k = (holds, λ c. answer v f (told_3 c.0 c.1 c.2 c.3))

  pub refused-4 : (k : ℕ)
      → (check_for v f ≡ Refused 4 k)
      ↔ (Not1 f × First2to4 v f k × (Line2 (record_at f k) → ⊥) × (Line3 v (record_at f k) → ⊥) × Line4 v (record_at f k))
  refused-4 k = (holds, λ c. answer v f (told_4 c.0 c.1 c.2 c.3 c.4))

  pub refused-5 : (k : ℕ) → (check_for v f ≡ Refused 5 k) ↔ (Not1 f × Not2to4 v f × First5 f k)
  refused-5 k = (holds, λ c. answer v f (told_5 c.0 c.1 c.2))

  pub refused-6 : (k : ℕ) → (check_for v f ≡ Refused 6 k) ↔ (Not1 f × Not2to4 v f × Not5 f × First6 f k)
  refused-6 k = (holds, λ c. answer v f (told_6 c.0 c.1 c.2 c.3))

  pub refused-7 : (k : ℕ) → (check_for v f ≡ Refused 7 k) ↔ (Not1 f × Not2to4 v f × Not5 f × Not6 f × First7 f k)
  refused-7 k = (holds, λ c. answer v f (told_7 c.0 c.1 c.2 c.3 c.4))

  pub refused-8 : (k : ℕ)
      → (check_for v f ≡ Refused 8 k) ↔ ((k ≡ 0) × Not1 f × Not2to4 v f × Not5 f × Not6 f × Not7 f × Line8 (program_of f))
  refused-8 k = (holds, λ c. answer v f (told_8 c.1 c.2 c.3 c.4 c.5 c.6) ∙ ap (Refused 8) (sym c.0))

  pub not-refused : (n w : ℕ)
      → (check_for v f ≡ Accepted n w)
      ↔ ((n ≡ count_of f) × (w ≡ w_of (program_of f)) × Not1 f × Not2to4 v f × Not5 f × Not6 f × Not7 f × Not8 f)
  not-refused n w =
      (holds, λ c. rw (c.0, c.1) (answer v f (accepted c.2 c.3 c.4 c.5 c.6 c.7 (steps-there v f c.2 c.5))))

  -- the same with W in words
  pub accepted-in-words : (n w : ℕ)
      → (check_for v f ≡ Accepted n w)
      ↔ ((n ≡ count_of f) × WOf (program_of f) w × Not1 f × Not2to4 v f × Not5 f × Not6 f × Not7 f × Not8 f)
  accepted-in-words n w = (
    λ e.
        let c = (not-refused n w).0 e in
        (c.0, (w-exactly v f c.2 c.5 w).1 c.1, c.2, c.3, c.4, c.5, c.6, c.7),
    λ c. (not-refused n w).1 (c.0, (w-exactly v f c.2 c.5 w).0 c.1, c.2, c.3, c.4, c.5, c.6, c.7),
  )

  -- the check refuses by 1 to 8 and no other number
  pub one_to_eight : (m k : ℕ) → check_for v f ≡ Refused m k → (1 ≤ m) × (m ≤ 8)
  one_to_eight m k e = go m (holds e)
    where
      go : (m : ℕ) → By v f m k → (1 ≤ m) × (m ≤ 8)
      go zero s = absurd s
      go (suc zero) s = (omega arith, omega arith)
      go (suc (suc zero)) s = (omega arith, omega arith)
      go (suc (suc (suc zero))) s = (omega arith, omega arith)
      go (suc (suc (suc (suc zero)))) s = (omega arith, omega arith)
      go (suc (suc (suc (suc (suc zero))))) s = (omega arith, omega arith)
      go (suc (suc (suc (suc (suc (suc zero)))))) s = (omega arith, omega arith)
      go (suc (suc (suc (suc (suc (suc (suc zero))))))) s = (omega arith, omega arith)
      go (suc (suc (suc (suc (suc (suc (suc (suc zero)))))))) s = (omega arith, omega arith)
      go (suc (suc (suc (suc (suc (suc (suc (suc (suc n))))))))) s = absurd s
