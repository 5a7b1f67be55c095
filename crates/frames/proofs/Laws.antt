-- The order of the exceptions. Assumes nothing.
use Prim.Native.Nat.{ℕ}
use mathlib.Core.Bool.{Bool, true, false, ◌||◌}
use mathlib.Core.Path.{◌≡◌, refl, sym}
use Rattle.modbus.specs.Exceptions.{quantity_fits, range_fits, exception_for}
use Rattle.modbus.specs.Frame.{is_short, is_long}

-- unknown; known, and quantity or value wrong; known, these right, and the range wrong; nothing wrong
module _ (n a q c : ℕ) (s l : Bool) (es : s ≡ is_short n) (el : l ≡ is_long n) where
  pub by-1 : s || l ≡ false → 1 ≡ exception_for n a q c
  unfolding exception_for
  by-1 h = rw (sym es, sym el, h) refl

  module _ (fits inside : Bool) (ef : fits ≡ quantity_fits n q c) (ei : inside ≡ range_fits n a q) (known : s || l ≡ true) where
    pub by_3 : fits ≡ false → 3 ≡ exception_for n a q c
    unfolding exception_for
    by_3 h = rw (sym es, sym el, known, sym ef, h) refl

    pub by_2 : fits ≡ true → inside ≡ false → 2 ≡ exception_for n a q c
    unfolding exception_for
    by_2 h k = rw (sym es, sym el, known, sym ef, h, sym ei, k) refl

    pub by_none : fits ≡ true → inside ≡ true → 0 ≡ exception_for n a q c
    unfolding exception_for
    by_none h k = rw (sym es, sym el, known, sym ef, h, sym ei, k) refl
