use borrow.Author.Rules.{rules}
use Rattle.crc.proofs.Folds.{folded}
use Rattle.crc.proofs.eights.fold.Goals as goal

pub returns : goal.returns
returns c = folded c.args.x _ (search rules) c.outs.ensures
