use Rattle.std.proofs.Common.{ℕ, ◌+◌, ◌*◌, ◌%◌, ◌^◌, ap, ◌∙◌, ap₂, arith}
use native.Mathlib.Nat.{mod-add-mod}
use Rattle.cases.proofs.Filling.{filling-none, filling-more, filling-done}
use Rattle.cases.proofs.Steps.{step-none, step-more}
use Rattle.units.specs.Report.{pair}
use Rattle.vectors_units.specs.Seeded.{seeded}
use Rattle.vectors_units.proofs.reports.fill.Goals as goal

pub loop-i-init : goal.loop-i-init
loop-i-init c = (filling-none _ _, step-none (2 ^ 32) _ 2 (omega arith))

pub loop-i-preserved : goal.loop-i-preserved
loop-i-preserved c =
    let seed = c.args.seed in
    let l = c.loop-i in
    let s = l.invariant.0 in
    let next = ap (λ (x : ℕ). (x + 1) % 2 ^ 32) l.invariant.1 ∙ mod-add-mod (seed + 2 * l.i) (2 ^ 32) 1 in (
      filling-more _ (omega (arith, s.size)) s (ap₂ pair l.invariant.1 next),
      ap (λ (x : ℕ). (x + 2) % 2 ^ 32) l.invariant.1 ∙ step-more (2 ^ 32) seed 2 l.i,
    )

pub returns : goal.returns
unfolding seeded
returns c = let s = c.loop-i.invariant.0 in filling-done (omega arith) s
