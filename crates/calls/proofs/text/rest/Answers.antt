-- `text::rest` meets its contract. Assumes nothing.
use Rattle.std.proofs.Common.{◌∙◌}
use Rattle.calls.proofs.Words.{all_after}
use Rattle.calls.proofs.text.rest.Goals as goal

pub returns : goal.returns
returns c = all_after c.args.call.now c.start_of-from.result ∙ c.start_of-from.ensures.0
