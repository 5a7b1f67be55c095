use Rattle.clashes.specs.Rows.{counted}
use Rattle.clashes.proofs.Reports.{by_rows}
use Rattle.clashes.proofs.lists.clashes_of.Goals as goal

pub returns : goal.returns
returns c =
    let a = c.args in
    by_rows (counted a.n a.list.now) _ _ _ _ _ c.min.ensures (c.rows_in.ensures a.n) c.told.ensures
