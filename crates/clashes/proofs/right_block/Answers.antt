use mathlib.Core.Path.{◌≡◌, refl, ap, ◌∙◌}
use Rattle.std.specs.Prelude.{Ok, Err}
use Rattle.std.specs.Result.{is_ok}
use Rattle.ec20.specs.Judged.{Judged}
use Rattle.clashes.specs.Rows.{is_fine, right_block}
use Rattle.clashes.proofs.right_block.Goals as goal

ok-fine : (j : Judged) → is_ok j ≡ is_fine j
ok-fine (Ok u) = refl
ok-fine (Err r) = refl

pub returns : goal.returns
unfolding right_block
returns c = c.is_ok.ensures.value ∙ ok-fine _ ∙ ap is_fine c.block_fault.ensures
