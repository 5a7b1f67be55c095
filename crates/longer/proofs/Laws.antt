-- The ways out of `which`: x and y are what was read of the first lines of a and of b. Assumes nothing.
use Prim.Native.Nat.{ℕ, ◌<◌, ◌≤◌}
use mathlib.Core.List.{List}
use mathlib.Core.Path.{◌≡◌, refl, sym, ap, ◌∙◌}
use borrow.Author.Tests.{lt-ltb, le-ltb}
use Rattle.std.specs.Prelude.{Option, None}
use Rattle.longer.specs.Told.{told_by_part}
use Rattle.longer.specs.declared.Part.{Part}
use Rattle.units.proofs.Part.{part_of, told_part}
use Rattle.units.specs.Text.{first_line, longer_of, ToldLonger, told_longer, told_by_longer}
use Rattle.units.specs.Line.{Line}
use Rattle.units.specs.Line as L

module _ (a b : List ℕ) (x : Line) (ex : x ≡ first_line a) where
  pub first-misspelt : (r : Option Part) → r ≡ None → x ≡ L.Misspelt → told_by_part r ≡ told_by_longer a b
  unfolding told_by_longer
  first-misspelt r e g = rw (e, sym ex, g) refl

  module _ (s m e : ℕ) (xs : x ≡ L.Spelt s m e) (y : Line) (ey : y ≡ first_line b) where
    pub second-misspelt : (r : Option Part) → r ≡ None → y ≡ L.Misspelt → told_by_part r ≡ told_by_longer a b
    unfolding told_by_longer
    second-misspelt r h g = rw (h, sym ex, sym ey, xs, g) refl

    pub second-longer : (t n f : ℕ) → y ≡ L.Spelt t n f → m < n → told_longer 2 f ≡ told_by_longer a b
    unfolding told_by_longer
    second-longer t n f ys h = rw (sym ex, sym ey, xs, ys, lt-ltb m n h) refl

    pub first-longer : (t n f : ℕ) → y ≡ L.Spelt t n f → n ≤ m → told_longer 1 e ≡ told_by_longer a b
    unfolding told_by_longer
    first-longer t n f ys h = rw (sym ex, sym ey, xs, ys, le-ltb m n h) refl

-- the part by lifetime
pub by_told : (a b : List ℕ) (r : Option Part) → told_by_part r ≡ told_by_longer a b → part_of (told_by_part r) a b ≡ longer_of a b
by_told a b r e = ap (λ (t : ToldLonger). part_of t a b) e ∙ sym (told_part a b)
