use Rattle.records.proofs.FrameLaws.{short, whole, broken}
use borrow.Author.Rules.{rules}
use Rattle.records.proofs.frame.Goals as goal

pub returns-then-n-lt8-clause-value : goal.returns-then-n-lt8-clause-value
returns-then-n-lt8-clause-value c = short _ c.if-n-lt8.true

pub returns-then-trailer_fits-clause-value : goal.returns-then-trailer_fits-clause-value
returns-then-trailer_fits-clause-value c =
    whole _ (search rules) c.u16_at-edition.ensures.0 c.u16_at-count.ensures.0 c.u32_at-distance.ensures.0 c.trailer_fits.ensures c.if-trailer_fits.true c.saturating_sub-first.ensures

pub returns-clause-value : goal.returns-clause-value
returns-clause-value c =
    broken _ (search rules) c.u16_at-edition.ensures.0 c.u16_at-count.ensures.0 c.u32_at-distance.ensures.0 c.trailer_fits.ensures c.if-trailer_fits.false
