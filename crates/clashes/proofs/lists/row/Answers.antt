use Prim.Native.Nat.{ℕ, ◌-◌, ◌^◌, ◌<◌}
use mathlib.Core.Path.{sym, ap, subst, ◌∙◌}
use native.Mathlib.Omega.{arith}
use borrow.Author.Rules.{rules}
use Rattle.clashes.specs.Rows.{counted, row_of}
use Rattle.clashes.proofs.RowLaws.{row-none, row-turn, row_fits}
use Rattle.clashes.proofs.lists.row.Goals as goal

pub loop-j-init : goal.loop-j-init
loop-j-init c = (search rules, λ k. row-none _ _ _ _ (omega arith))

pub grown-r-requires : goal.grown-r-requires
grown-r-requires c = subst (λ (r : ℕ). r < 2 ^ 63) (sym (c.loop-j.invariant.1 0)) (row_fits _ _ _ _ (omega arith))

pub loop-j-preserved : goal.loop-j-preserved
loop-j-preserved c =
    (omega arith, λ k. c.grown-r.ensures ∙ row-turn (counted k c.args.list.now) _ _ _ _ _ (omega arith) (search rules) (c.loop-j.invariant.1 k) c.clash.ensures)

pub returns : goal.returns
returns c k = c.loop-j.invariant.1 k ∙ ap (λ (j : ℕ). row_of (counted k c.args.list.now) c.args.i j (c.args.n - j)) (omega arith)
