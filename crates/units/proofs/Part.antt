-- What a host is told of two texts names the part that is handed back. Assumes nothing.
use Prim.Native.Nat.{ℕ}
use mathlib.Core.Bool.{Bool, true, false}
use mathlib.Core.List.{List}
use mathlib.Core.Path.{◌≡◌, refl}
use lib.ListN.{take}
use lib.Dec.{ltb, eqb}
use Rattle.std.specs.Prelude.{Some}
use Rattle.ec20.specs.Basics.{pick}
use Rattle.units.specs.Text.{first_line, longer_by, longer_of, ToldLonger, told_longer, told_by_lines, told_by_longer}
use Rattle.units.specs.Line.{Line}
use Rattle.units.specs.Line as L

-- the part that is told: so many bytes of the second text, or of the first
abbrev pub part_of : ToldLonger → List ℕ → List ℕ → List ℕ
part_of t a b = pick (eqb t.text 2) (take t.size b) (take t.size a)

by-test : (a b : List ℕ) (e f : ℕ) (t : Bool) → pick t (take f b) (take e a) ≡ part_of (pick t (told_longer 2 f) (told_longer 1 e)) a b
by-test a b e f true = refl
by-test a b e f false = refl

by_lines : (a b : List ℕ) (x y : Line) → longer_by a b x y ≡ part_of (told_by_lines x y) a b
by_lines a b L.Misspelt y = refl
by_lines a b (Some w) L.Misspelt = refl
by_lines a b (Some w) (Some w2) = by-test a b w.next w2.next (ltb w.length w2.length)

pub told_part : (a b : List ℕ) → longer_of a b ≡ part_of (told_by_longer a b) a b
unfolding longer_of told_by_longer
told_part a b = by_lines a b (first_line a) (first_line b)
