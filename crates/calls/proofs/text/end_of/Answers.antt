-- `text::end_of` meets its contract. Assumes nothing.
use Rattle.std.proofs.Common.{◌∙◌}
use Rattle.calls.proofs.Words.{ends}
use Rattle.calls.proofs.text.end_of.Goals as goal

pub returns : goal.returns
returns c = (c.find.ensures.place ∙ ends c.args.call.now c.args.from, c.find.ensures.in_bounds.1)
