use mathlib.Core.Path.{ap, ◌∙◌}
use native.Mathlib.Omega.{arith}
use lib.ListN.{get_or}
use Rattle.units.specs.Clash.{none}
use Rattle.clashes.specs.Rows.{counted, with_row, rows_of}
use Rattle.clashes.proofs.RowLaws.{rows_none, rows_more}
use Rattle.clashes.proofs.lists.rows_in.Goals as goal

pub loop-i-init : goal.loop-i-init
loop-i-init c k = rows_none _ _ _ c.no_rows-r.ensures

pub loop-i-preserved : goal.loop-i-preserved
loop-i-preserved c k =
    let l = c.loop-i in
    rows_more (counted k c.args.list.now) _ _ _ _ (l.invariant k) (c.with_row-r.ensures ∙ ap (with_row l.r l.i (get_or c.args.list.now l.i none)) (c.row.ensures k))

pub returns : goal.returns
returns c k = c.loop-i.invariant k ∙ ap (rows_of _ _) (omega arith)
