-- Laws of tests that every layer uses. Assumes nothing.
use mathlib.Core.Bool.{Bool, true, false, not, ◌&&◌, ◌||◌}
use mathlib.Core.Path.{◌≡◌, refl, sym, ap, ◌∙◌}
use mathlib.Core.Logic.{◌⊎◌, inl, inr}
use Prim.Native.Nat.{ℕ, ◌<◌}
use native.Mathlib.Omega.{arith}
use Rattle.ec20.specs.Basics.{pick, one_if}

pub differ : {A : Type 0} → ◌≡◌ {A = Bool} true false → A
differ e = let z : ◌≡◌ {A = ℕ} 0 1 = cc in absurd (omega arith)

-- both hold
pub both : (a b : Bool) → (a && b) ≡ true → (a ≡ true) × (b ≡ true)
both true b e = (refl, e)
both false b e = (e, differ (let z : true ≡ false = cc in z))

-- each of three holds
pub each : (a b c : Bool) → (a && b && c) ≡ true → (a ≡ true) × (b ≡ true) × (c ≡ true)
each a b c e = let q = both (a && b) c e in let h = both a b q.0 in (h.0, h.1, q.1)

-- one of them fails
pub one-fails : (a b : Bool) → (a && b) ≡ false → (a ≡ false) ⊎ (b ≡ false)
one-fails true b e = inr e
one-fails false b e = inl refl

-- one of them holds
pub either : (a b : Bool) → (a || b) ≡ true → (a ≡ true) ⊎ (b ≡ true)
either true b e = inl refl
either false b e = inr e

-- neither holds
pub neither : (a b : Bool) → (a || b) ≡ false → (a ≡ false) × (b ≡ false)
neither true b e = differ e
neither false b e = (refl, e)

-- one of three holds: from the test to the one that does, and back
pub three : {A : Type 0} (a b c : Bool) → (a || b || c) ≡ true → (a ≡ true → A) → (b ≡ true → A) → (c ≡ true → A) → A
three true b c e f g h = f refl
three false true c e f g h = g refl
three false false c e f g h = h e

pub or_right : (a b : Bool) → b ≡ true → (a || b) ≡ true
or_right true b e = refl
or_right false b e = e

pub one-first : (a b c : Bool) → a ≡ true → (a || b || c) ≡ true
one-first a b c e = ap (λ (x : Bool). x || b || c) e

pub one-second : (a b c : Bool) → b ≡ true → (a || b || c) ≡ true
one-second a b c e = ap (λ (x : Bool). x || c) (or_right a b e)

-- a test that is not true is false
pub is_false : (t : Bool) → (t ≡ true → ⊥) → t ≡ false
is_false true h = absurd (h refl)
is_false false h = refl

-- the second holds where the first does
pub implied : (a b : Bool) → (not a || b) ≡ true → a ≡ true → b ≡ true
implied true b e h = e
implied false b e h = differ (sym h)

-- a test as a bit
pub one-small : (b : Bool) → one_if b < 2
one-small true = omega arith
one-small false = omega arith

-- what holds of both holds of the one that is picked
pub picked {ℓ} : {A : Type ℓ} (P : A → Type 0) (t : Bool) (x y : A) → (t ≡ true → P x) → (t ≡ false → P y) → P (pick t x y)
picked P true x y f g = f refl
picked P false x y f g = g refl

-- two results that meet the same equation are equal: so it is of every contract that is one equation
pub one_answer {ℓ} : {A : Type ℓ} {x r s : A} → r ≡ x → s ≡ x → r ≡ s
one_answer p q = p ∙ sym q
