use native.Mathlib.Omega.{arith}
use mathlib.Core.Bool.{Bool}
use mathlib.Core.Path.{refl, ap, ◌∙◌}
use Rattle.ec20.specs.Flow.{contact_of}
use Rattle.ec20.specs.Table.{table, row_of}
use Rattle.step.proofs.ExecLaws.{nop-arm, contact-arm, join-arm, branch-arm, coil-arm, timer-arm, for-arm, next-arm, jump-arm, label-arm, end-arm}
use Rattle.step.proofs.FormLaws as by
use Rattle.step.proofs.exec.Goals as goal

pub open_loop-requires : goal.open_loop-requires
open_loop-requires c = record { depth_bound = c.requires.due.depth; pc_bound = omega (arith, c.requires.due.here, c.requires.running.held.most); pc_bound_2 = omega (arith, by.goes_near c.requires.due c.requires.running) }

pub returns-in-0 : goal.returns-in-0
unfolding row_of table
returns-in-0 c = nop-arm _ _ _ _ _ (by.nop c.requires.due c.in-0.is refl) c.go_on.ensures

pub returns-in-1 : goal.returns-in-1
unfolding row_of table
returns-in-1 c = contact-arm _ _ _ _ _ (by.contact c.requires.due c.in-1.is refl c.operand_at.ensures.0) (c.contact.ensures ∙ ap (λ (b : Bool). contact_of 1 b c.args.s) (c.load_bit-b.ensures _ _))

pub returns-in-2 : goal.returns-in-2
unfolding row_of table
returns-in-2 c = contact-arm _ _ _ _ _ (by.contact c.requires.due c.in-2.is refl c.operand_at-in-2.ensures.0) (c.contact-in-2.ensures ∙ ap (λ (b : Bool). contact_of 2 b c.args.s) (c.load_bit-b-in-2.ensures _ _))

pub returns-in-3 : goal.returns-in-3
unfolding row_of table
returns-in-3 c = contact-arm _ _ _ _ _ (by.contact c.requires.due c.in-3.is refl c.operand_at-in-3.ensures.0) (c.contact-in-3.ensures ∙ ap (λ (b : Bool). contact_of 3 b c.args.s) (c.load_bit-b-in-3.ensures _ _))

pub returns-in-4 : goal.returns-in-4
unfolding row_of table
returns-in-4 c = contact-arm _ _ _ _ _ (by.contact c.requires.due c.in-4.is refl c.operand_at-in-4.ensures.0) (c.contact-in-4.ensures ∙ ap (λ (b : Bool). contact_of 4 b c.args.s) (c.load_bit-b-in-4.ensures _ _))

pub returns-in-5 : goal.returns-in-5
unfolding row_of table
returns-in-5 c = contact-arm _ _ _ _ _ (by.contact c.requires.due c.in-5.is refl c.operand_at-in-5.ensures.0) (c.contact-in-5.ensures ∙ ap (λ (b : Bool). contact_of 5 b c.args.s) (c.load_bit-b-in-5.ensures _ _))

pub returns-in-6 : goal.returns-in-6
unfolding row_of table
returns-in-6 c = contact-arm _ _ _ _ _ (by.contact c.requires.due c.in-6.is refl c.operand_at-in-6.ensures.0) (c.contact-in-6.ensures ∙ ap (λ (b : Bool). contact_of 6 b c.args.s) (c.load_bit-b-in-6.ensures _ _))

pub returns-in-7 : goal.returns-in-7
unfolding row_of table
returns-in-7 c = join-arm _ _ _ _ _ (by.join c.requires.due c.in-7.is refl) c.join.ensures

pub returns-in-8 : goal.returns-in-8
unfolding row_of table
returns-in-8 c = join-arm _ _ _ _ _ (by.join c.requires.due c.in-8.is refl) c.join-in-8.ensures

pub returns-in-9 : goal.returns-in-9
unfolding row_of table
returns-in-9 c = branch-arm _ _ _ _ _ (by.branch c.requires.due c.in-9.is refl) c.branch-s.ensures

pub returns-in-10 : goal.returns-in-10
unfolding row_of table
returns-in-10 c = branch-arm _ _ _ _ _ (by.branch c.requires.due c.in-10.is refl) c.branch-s-in-10.ensures

pub returns-in-11 : goal.returns-in-11
unfolding row_of table
returns-in-11 c = branch-arm _ _ _ _ _ (by.branch c.requires.due c.in-11.is refl) c.branch-s-in-11.ensures

pub returns-in-12 : goal.returns-in-12
unfolding row_of table
returns-in-12 c = coil-arm _ _ _ _ _ (by.coil c.requires.due c.in-12.is refl c.operand_at-in-12.ensures.0) (c.coil.ensures _ _ _ _ _ _)

pub returns-in-13 : goal.returns-in-13
unfolding row_of table
returns-in-13 c = coil-arm _ _ _ _ _ (by.coil c.requires.due c.in-13.is refl c.operand_at-in-13.ensures.0) (c.coil-in-13.ensures _ _ _ _ _ _)

pub returns-in-14 : goal.returns-in-14
unfolding row_of table
returns-in-14 c = coil-arm _ _ _ _ _ (by.coil c.requires.due c.in-14.is refl c.operand_at-in-14.ensures.0) (c.coil-in-14.ensures _ _ _ _ _ _)

pub returns-in-18 : goal.returns-in-18
unfolding row_of table
returns-in-18 c = timer-arm _ _ _ _ _ (by.timer c.requires.due c.in-18.is refl c.u32_at.ensures.0 c.u32_at-in-18.ensures.0) (c.timer.ensures _ _ _ _ _ _)

pub returns-in-19 : goal.returns-in-19
unfolding row_of table
returns-in-19 c = for-arm _ _ _ _ _ (by.opens c.requires.due c.in-19.is refl c.u32_at-in-19.ensures.0) (c.open_loop.ensures _ _ (by.next-there c.requires.due c.requires.running c.in-19.is refl c.u32_at-in-19.ensures.0))

pub returns-in-20 : goal.returns-in-20
unfolding row_of table
returns-in-20 c = next-arm _ _ _ _ _ (by.closes c.requires.due c.in-20.is refl) (c.close_loop.ensures _)

pub returns-in-21 : goal.returns-in-21
unfolding row_of table
returns-in-21 c = jump-arm _ _ _ _ _ (by.jumps c.requires.due c.in-21.is refl refl) (c.jump.ensures _ _ (by.label-there c.requires.due c.requires.running c.in-21.is refl refl))

pub returns-in-22 : goal.returns-in-22
unfolding row_of table
returns-in-22 c = label-arm _ _ _ _ _ (by.marks c.requires.due c.in-22.is refl) c.go_to.ensures

pub returns-in-23 : goal.returns-in-23
unfolding row_of table
returns-in-23 c = end-arm _ _ _ _ _ (by.ends c.requires.due c.in-23.is refl) c.stop.ensures
