use mathlib.Core.Path.{◌≡◌, refl, subst}
use native.Mathlib.Omega.{arith}
use Rattle.ec20.specs.Numbers.{root_of}
use Rattle.arith.proofs.Roots.{Judged, turn_in, turn-out, judged-all}
use Rattle.arith.proofs.root.Goals as goal
use Rattle.arith.proofs.root.Goals.{then-rest-lt65536, else-rest-lt65536, then-more-rest, else-more-rest}

-- what the loop leaves
found : (c : goal.After-loop-place) → c.loop-place.r ≡ root_of c.args.n
found c =
    let n = c.args.n in
    let l = c.loop-place in
    let z : l.place ≡ 0 = omega arith in
    judged-all n l.rest l.r (subst (Judged n l.rest l.r) z l.invariant)

pub loop-place-init : goal.loop-place-init
loop-place-init c =
    elim c.if-rest-lt65536.branch [
      | then-rest-lt65536 w ↦ rw w.place-is (8, 0, (omega arith, omega arith, refl, omega arith), refl)
      | else-rest-lt65536 w ↦ rw w.place-is (16, 0, (omega arith, omega arith, refl, omega arith), refl)
    ]

pub loop-place-preserved : goal.loop-place-preserved
loop-place-preserved c =
    let n = c.args.n in
    let l = c.loop-place in
    elim c.if-more-rest.branch [
      | then-more-rest w ↦ rw (w.rest-is, w.r-is) (turn_in n l.rest l.r l.place l.invariant (omega arith) (omega arith))
      | else-more-rest w ↦ rw (w.rest-is, w.r-is) (turn-out n l.rest l.r l.place l.invariant (omega arith) (omega arith))
    ]

pub returns : goal.returns
returns c = found c
