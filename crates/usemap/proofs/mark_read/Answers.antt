use Rattle.ec20.specs.Roles.{is_read}
use Rattle.usemap.proofs.Laws.{widen-uses}
use Rattle.usemap.proofs.mark_read.Goals as goal

pub returns : goal.returns
returns c =
    widen-uses _ is_read _ _ c.is_read.ensures c.is_read-2.ensures c.is_read-3.ensures c.mark_if.ensures c.mark_if-2.ensures c.mark_if-3.ensures
