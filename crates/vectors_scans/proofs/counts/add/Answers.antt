-- One after the other. Assumes nothing.
use Prim.Native.Nat.{ℕ}
use mathlib.Core.Path.{ap, ap₂, ◌∙◌}
use Rattle.cases.specs.Filled.{one_more}
use Rattle.vectors_scans.specs.Counted.{counted}
use Rattle.vectors_scans.proofs.counts.add.Goals as goal

pub returns : goal.returns
unfolding counted
returns c =
    let one = c.one_more.ensures ∙ ap (λ (k : ℕ). one_more k c.args.met.now) c.of_answer.ensures in
    let two = c.one_more-2.ensures ∙ ap₂ one_more c.of_error.ensures one in
    let three = c.one_more-3.ensures ∙ ap₂ one_more c.of_budget.ensures two in
    let four = c.one_more-4.ensures ∙ ap₂ one_more c.of_last_step.ensures three in
    c.one_more-5.ensures ∙ ap₂ one_more c.of_plain.ensures four
