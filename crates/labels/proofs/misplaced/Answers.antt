use native.Mathlib.Omega.{arith}
use Rattle.labels.proofs.Bodies.{place-low, no_place, no-later, later}
use Rattle.labels.proofs.misplaced.Goals as goal

pub offset_bounds-homes-t : goal.offset_bounds-homes-t
offset_bounds-homes-t c =
    omega (arith, c.requires.held.most, place-low _ _ _ _ c.place.ensures c.in-Some.is)

pub bounds-homes-t : goal.bounds-homes-t
bounds-homes-t c =
    omega (arith, c.requires.held.most, place-low _ _ _ _ c.place.ensures c.in-Some.is)

pub returns-then-k-t : goal.returns-then-k-t
returns-then-k-t c =
    later _ _ _ _ c.requires.sound c.requires.k_lt_count c.requires.k_value _ c.place.ensures c.in-Some.is c.if-k-t.true _ c.requires.homes

pub returns-else-k-t : goal.returns-else-k-t
returns-else-k-t c =
    no-later _ _ _ _ c.requires.sound c.requires.k_lt_count c.requires.k_value _ c.place.ensures c.in-Some.is c.if-k-t.false

pub returns-in-None : goal.returns-in-None
returns-in-None c =
    no_place _ _ _ _ c.requires.sound c.requires.k_lt_count c.requires.k_value c.place.ensures c.in-None.is
