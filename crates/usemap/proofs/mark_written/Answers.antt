use Rattle.ec20.specs.Roles.{is_written}
use Rattle.usemap.proofs.Laws.{widen-uses}
use Rattle.usemap.proofs.mark_written.Goals as goal

pub returns : goal.returns
returns c =
    widen-uses _ is_written _ _ c.is_written.ensures c.is_written-2.ensures c.is_written-3.ensures c.mark_if.ensures c.mark_if-2.ensures c.mark_if-3.ensures
