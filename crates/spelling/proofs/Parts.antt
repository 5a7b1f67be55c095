-- A number and the byte behind it, as a part of a line. Assumes nothing.
use Prim.Native.Nat.{ℕ, ◌+◌}
use mathlib.Core.Bool.{Bool, true, false}
use mathlib.Core.List.{List}
use mathlib.Core.Path.{◌≡◌, refl, sym}
use lib.Dec.{eqb}
use borrow.Author.Tests.{eq-eqb, ne_eqb}
use Rattle.std.specs.Prelude.{Option, Some, None}
use Rattle.ec20.specs.Basics.{pick}
use Rattle.units.specs.Spelling.{byte_in, number_at}
use Rattle.units.specs.Number.{Number, Misspelt, Spelt}
use Rattle.spelling.specs.Part.{part_at}

-- what comes of a part that was read
abbrev pub got : {A : Type 0} → Number → (ℕ → ℕ → Option A) → Option A
got Misspelt f = None
got (Some w) f = f w.value w.next

by-test : {A : Type 0} (t : Bool) (v e : ℕ) (f : ℕ → ℕ → Option A) → pick t (f v e) None ≡ got (pick t (Spelt v e) Misspelt) f
by-test true v e f = refl
by-test false v e f = refl

pub parted : {A : Type 0} (s : List ℕ) (b v e : ℕ) (f : ℕ → ℕ → Option A)
    → pick (eqb (byte_in s e) b) (f v (e + 1)) None ≡ got (pick (eqb (byte_in s e) b) (Spelt v (e + 1)) Misspelt) f
parted s b v e f = by-test (eqb (byte_in s e) b) v (e + 1) f

-- the ways out of `part`: x is the number, and z the byte behind it
module _ (s : List ℕ) (from most b : ℕ) (x : Number) (ex : x ≡ number_at s from most) where
  pub part-misspelt : x ≡ Misspelt → Misspelt ≡ part_at s from most b
  unfolding part_at
  part-misspelt g = rw (sym ex, g)

  module _ (v e z : ℕ) (xs : x ≡ Spelt v e) (ez : z ≡ byte_in s e) where
    pub part-unended : (z ≡ b → ⊥) → Misspelt ≡ part_at s from most b
    unfolding part_at
    part-unended g = rw (sym ex, xs, sym ez, ne_eqb z b g)

    pub part-spelt : z ≡ b → Spelt v (e + 1) ≡ part_at s from most b
    unfolding part_at
    part-spelt g = rw (sym ex, xs, sym ez, eq-eqb z b g)
