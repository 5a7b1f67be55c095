-- By whether the table is the one that is lent in a wrong size. Assumes nothing.
use Prim.Native.Nat.{ℕ, min}
use mathlib.Core.Path.{ap, ◌∙◌}
use borrow.Author.Tests.{eq-eqb, ne_eqb}
use Rattle.vectors_scans.specs.Wants.{lent_of}
use Rattle.vectors_scans.proofs.lent.size.Goals as goal

pub returns-then-a-table : goal.returns-then-a-table
unfolding lent_of
returns-then-a-table c =
    let most = c.args.most in
    let e = c.least.ensures.0 ∙ ap (λ (x : ℕ). min x most) c.wrong.ensures in
    (rw (eq-eqb _ _ c.if-a-table.true) e, c.least.ensures.1)

pub returns : goal.returns
unfolding lent_of
returns c = (rw (ne_eqb _ _ c.if-a-table.false) c.least-2.ensures.0, c.least-2.ensures.1)
