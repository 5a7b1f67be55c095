-- `text::word` meets its contract. Assumes nothing.
use Rattle.calls.proofs.Words.{word-is}
use Rattle.calls.proofs.text.word.Goals as goal

pub returns : goal.returns
returns c =
    let a = c.args in
    let from = c.start_of-from in
    word-is a.call.now from.result c.end_of-to.result c.end_of-to.ensures.0 a.i from.ensures.0
