use mathlib.Core.Path.{refl, sym, ◌∙◌}
use native.Mathlib.Omega.{arith}
use borrow.Author.Rules.{rules}
use Rattle.runs.proofs.Going.{going_start, going_on, going-ended, going-used}
use Rattle.runs.proofs.run.Goals as goal

pub loop-more-init : goal.loop-more-init
loop-more-init c = (going_start _ _ _ _ c.start-s.ensures, refl, refl, refl, refl, refl, refl)

pub at_end-due-requires : goal.at_end-due-requires
at_end-due-requires c = c.requires.held

pub overflow_sub-budget : goal.overflow_sub-budget
overflow_sub-budget c = c.loop-more.invariant.0.within

pub overflow_add-budget : goal.overflow_add-budget
overflow_add-budget c = record { fits = omega (arith, c.loop-more-test.true, c.loop-more.invariant.0.within, c.ranges.budget.fits) }

pub returns-then-due : goal.returns-then-due
returns-then-due c = going-ended _ _ _ _ _ _ _ _ c.loop-more.invariant.0 (omega (arith, c.loop-more-test.true)) (sym c.at_end-due.ensures ∙ c.if-due.true) c.ended.ensures

pub step-s-requires : goal.step-s-requires
step-s-requires c = record { running = c.requires; depth_bound = (c.loop-more.invariant.0.sane.room, omega (arith, c.loop-more.invariant.0.sane.due, c.requires.held.most)) }

pub overflow_sub-more : goal.overflow_sub-more
overflow_sub-more c = omega (arith, c.loop-more-test.true)

pub loop-more-smaller : goal.loop-more-smaller
loop-more-smaller c = omega (arith, c.loop-more-test.true)

pub loop-more-preserved : goal.loop-more-preserved
loop-more-preserved c = (going_on _ _ _ _ _ _ _ c.loop-more.invariant.0 (omega (arith, c.loop-more-test.true)) (sym c.at_end-due.ensures ∙ c.if-due.false) c.step-s.ensures, search rules, search rules, search rules, search rules, search rules, search rules)

pub returns : goal.returns
returns c = going-used _ _ _ _ _ _ _ _ c.loop-more.invariant.0 (omega (arith, c.loop-more-test.false)) c.answer.ensures
