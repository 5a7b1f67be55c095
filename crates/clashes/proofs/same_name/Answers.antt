use mathlib.Core.Path.{◌∙◌}
use borrow.Author.Rules.{rules}
use Rattle.clashes.proofs.Names.{names-same}
use Rattle.clashes.proofs.same_name.Goals as goal

pub returns : goal.returns
returns c = c.eq.ensures ∙ names-same _ _ (search rules) (search rules)
