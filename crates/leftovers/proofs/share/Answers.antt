-- The sums, each divided by its base. Assumes nothing.
use mathlib.Core.Path.{sym, subst}
use native.Mathlib.Omega.{arith}
use lib.ListN.{length-set}
use Rattle.ec20.specs.Plant.{leftover_of, rest_after}
use Rattle.ec20.specs.Timers.{Few}
use Rattle.leftovers.proofs.Laws.{two, tens-low, hundreds-low, shared-units, rewritten, few}
use Rattle.leftovers.proofs.share.Goals as goal

pub bounds-rest-0 : goal.bounds-rest-0
bounds-rest-0 c = omega (arith, two _ c.requires.0)

pub bounds-rest-1 : goal.bounds-rest-1
bounds-rest-1 c = omega (arith, two _ c.requires.0)

pub bounds-rest-0-2 : goal.bounds-rest-0-2
bounds-rest-0-2 c = omega (arith, two _ c.requires.0)

pub bounds-rest-1-2 : goal.bounds-rest-1-2
bounds-rest-1-2 c = simp length-set (omega (arith, two _ c.requires.0))

pub returns : goal.returns
unfolding rest_after leftover_of
returns c =
    let p = c.requires in
    let a = c.args in
    let r = a.rest.now in
    let u = shared-units r a.elapsed in record { value = u; rest_after = rewritten r _ _ (two r p.0); few = subst Few (sym u) (few r a.elapsed p.0 p.1) }
