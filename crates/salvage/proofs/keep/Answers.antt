use mathlib.Core.Path.{◌≡◌, ap, refl, subst}
use mathlib.Core.Bool.{not}
use native.Mathlib.Omega.{arith}
use borrow.Author.Rules.{rules}
use Rattle.salvage.proofs.Keeping.{On, on_none, on-all, on-bad, on-end, on-more}
use Rattle.salvage.proofs.keep.Goals as goal

pub loop-k-init : goal.loop-k-init
loop-k-init c = on_none _

pub passes-requires : goal.passes-requires
passes-requires c = record { i_in_bounds = omega (arith, c.requires.n_in_bounds) }

pub returns-then-not-passes : goal.returns-then-not-passes
returns-then-not-passes c =
    let l = c.loop-k in
    on-bad _ _ l.k 0 _ l.invariant (search rules) c.passes.ensures (ap not c.if-not-passes.true)

pub returns-then-t-k-eq23 : goal.returns-then-t-k-eq23
returns-then-t-k-eq23 c =
    let l = c.loop-k in
    on-end _ _ l.k _ _ l.invariant (search rules) c.passes.ensures (ap not c.if-not-passes.false) refl c.if-t-k-eq23.true

pub loop-k-preserved : goal.loop-k-preserved
loop-k-preserved c =
    let l = c.loop-k in
    on-more _ c.args.n l.k _ _ l.invariant (search rules) c.passes.ensures (ap not c.if-not-passes.false) refl c.if-t-k-eq23.false

pub returns : goal.returns
returns c = let l = c.loop-k in on-all _ _ _ (subst (On _) (let e : l.k ≡ c.args.n = omega arith in e) l.invariant) refl
