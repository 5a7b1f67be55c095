-- What is made does not depend on what stood there. Assumes nothing.
use mathlib.Core.Path.{◌∙◌}
use Rattle.vectors_requests.proofs.Made.{made}
use Rattle.vectors_requests.proofs.before.words_anew.Goals as goal

pub returns : goal.returns
returns c =
    let a = c.args in
    let e = c.fill.ensures ∙ made a.rule 0 a.seed 16000 a.b.now c.requires.0 c.requires.1 in record { filled = rw e at c.fill_words.ensures; filled_2 = rw e at c.fill_words-2.ensures }
