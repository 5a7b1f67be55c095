use borrow.Author.Rules.{rules}
use mathlib.Core.Path.{refl}
use Rattle.unit_splits.proofs.Laws.{of-whole, of-broken}
use Rattle.unit_splits.proofs.split.Goals as goal

pub first_split-requires : goal.first_split-requires
first_split-requires c = (c.in-Some.ensures.fits, search rules, search rules)

pub returns-in_default : goal.returns-in_default
returns-in_default c = of-broken _ _ _ c.frame.ensures.value c.in_default.is

pub returns : goal.returns
returns c = of-whole _ _ _ c.in-Some.ensures.value _ _ refl _ c.first_split.ensures
