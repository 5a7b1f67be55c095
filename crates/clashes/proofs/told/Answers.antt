use borrow.Author.Rules.{rules}
use Rattle.clashes.proofs.Reports.{too_many, no_room, all_told, at-most-64}
use Rattle.clashes.proofs.told.Goals as goal

pub returns-then-not-n-r : goal.returns-then-not-n-r
returns-then-not-n-r c = too_many _ _ _ c.if-not-n-r.true

pub returns-then-report-lt2016 : goal.returns-then-report-lt2016
returns-then-report-lt2016 c = no_room _ _ _ c.if-not-n-r.false (search rules)

pub tell_rows-requires : goal.tell_rows-requires
tell_rows-requires c = (at-most-64 _ _ c.if-not-n-r.false, search rules)

pub returns : goal.returns
returns c =
    all_told _ _ _ _ _ c.if-not-n-r.false c.if-report-lt2016.false c.tell_rows.ensures.0 c.tell_rows.ensures.1
