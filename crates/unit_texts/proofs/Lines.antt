-- A line of a unit list. Assumes nothing.
use Prim.Native.Nat.{ℕ}
use mathlib.Core.List.{List}
use mathlib.Core.Path.{◌≡◌, refl, sym, subst}
use native.Mathlib.Omega.{arith}
use lib.ListN.{length}
use Rattle.std.specs.Prelude.{Some}
use Rattle.spelling.proofs.Parts.{got, parted}
use Rattle.spelling.specs.Bounds.{PartIn, LineIn}
use Rattle.spelling.specs.Part.{part_by, part_at}
use Rattle.units.specs.Spelling.{number_at}
use Rattle.units.specs.Text.{line_at}
use Rattle.units.specs.Listed.{unit_by_line, unit_by_number, unit_at}
use Rattle.units.specs.Number.{Number}
use Rattle.units.specs.Number as N
use Rattle.units.specs.Line.{Line}
use Rattle.units.specs.Line as L
use Rattle.units.specs.UnitLine as U
use Rattle.unit_texts.specs.Held.{UnitIn}

-- the line by its parts
by-number : (s : List ℕ) (x : Number) → unit_by_number s x ≡ got (part_by s 32 x) (λ u e. unit_by_line u e (line_at s e 4294967295))
by-number s N.Misspelt = refl
by-number s (Some w) = parted s 32 w.value w.next (λ u e. unit_by_line u e (line_at s e 4294967295))

-- the ways out of `unit_line`: x is the unit's number, y the declaration behind it
module _ (s : List ℕ) (from : ℕ) (x : Number) (ex : x ≡ part_at s from 65535 32) where
  by_parts : got x (λ u e. unit_by_line u e (line_at s e 4294967295)) ≡ unit_at s from
  unfolding unit_at part_at
  by_parts = rw (by-number s (number_at s from 65535), sym ex)

  pub unit-misspelt : x ≡ N.Misspelt → U.Misspelt ≡ unit_at s from
  unit-misspelt g = rw g at by_parts

  module _ (u e : ℕ) (xs : x ≡ N.Spelt u e) (y : Line) (ey : y ≡ line_at s e 4294967295) where
    by_line : unit_by_line u e y ≡ unit_at s from
    by_line = rw (sym ey) at (rw xs at by_parts)

    pub rest-misspelt : y ≡ L.Misspelt → U.Misspelt ≡ unit_at s from
    rest-misspelt g = rw g at by_line

    pub unit-spelt : (a n f : ℕ) → y ≡ L.Spelt a n f → U.Spelt u e a n f ≡ unit_at s from
    unit-spelt a n f g = rw g at by_line

    -- name and end stand in the text
    pub unit-in : (a n f : ℕ) → y ≡ L.Spelt a n f → PartIn (length s) from 65535 x → LineIn (length s) e 4294967295 y → UnitIn (length s) from (U.Spelt u e a n f)
    unit-in a n f g p q =
        let i = subst (PartIn (length s) from 65535) xs p in
        let j = subst (LineIn (length s) e 4294967295) g q in
        (i.0, omega (arith, j.2, j.3), j.0, j.1, omega (arith, i.1, j.2), j.3)
