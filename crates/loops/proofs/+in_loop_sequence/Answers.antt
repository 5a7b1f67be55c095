use native.Mathlib.Omega.{arith}
use mathlib.Core.Path.{sym, ◌∙◌}
use borrow.Author.Rules.{rules}
use Rattle.std.proofs.Common.{inl, inr}
use Rattle.std.proofs.lemmas.Result.{err_from_is_err_and}
use Rattle.loops.specs.Walks.{Small}
use Rattle.loops.proofs.Laws.{go-in, enter-in, no_finish, small, after-in, go, go-bad, enter, enter-bad, after-bad, leave, refuse, looped, looped-bad, ahead_none, ahead-go, ahead_enter, ends-bad, ends-leave, ends-finish, ends-refuse}
use Rattle.loops.proofs.+in_loop_sequence.Goals as goal

pub in_loop-sequence-requires : goal.in_loop-sequence-requires
in_loop-sequence-requires t c =
    let e = sym c.asked.ensures ∙ c.in-Go.is in
    let h = go-in _ _ _ _ (omega arith) _ e in
    search rules

pub in_loop-add-requires : goal.in_loop-add-requires
in_loop-add-requires t c =
    let e = sym c.asked.ensures ∙ c.in-Go.is in
    let h = go-in _ _ _ _ (omega arith) _ e in
    (h.1, small _ _ _ _ h.0 _ (omega arith) c.in_ok-rest-in-Go.ensures)

pub in_loop-closed-requires : goal.in_loop-closed-requires
in_loop-closed-requires t c =
    let e = sym c.asked.ensures ∙ c.in-Go.is in
    rw c.add.ensures (small _ _ _ _ (omega arith) _ (omega arith) (go _ _ _ _ (omega arith) _ _ e c.in_ok-rest-in-Go.ensures))

pub in_loop-returns-in_ok-rest-in-Go : goal.in_loop-returns-in_ok-rest-in-Go
in_loop-returns-in_ok-rest-in-Go t c =
    let e = sym c.asked.ensures ∙ c.in-Go.is in
    rw (c.closed.ensures, c.add.ensures) (looped _ _ _ _ (omega arith) _ _ (go _ _ _ _ (omega arith) _ _ e c.in_ok-rest-in-Go.ensures))

pub in_loop-returns-in_err-rest-in-Go : goal.in_loop-returns-in_err-rest-in-Go
in_loop-returns-in_err-rest-in-Go t c =
    let e = sym c.asked.ensures ∙ c.in-Go.is in
    let p = err_from_is_err_and c.from_residual.result c.from_residual.ensures.1 in
    rw (p.1, p.2) (looped-bad _ _ _ _ (omega arith) _ _ (go-bad _ _ _ _ (omega arith) _ _ e c.in_err-rest-in-Go.ensures))

pub in_loop-overflow_add-depth : goal.in_loop-overflow_add-depth
in_loop-overflow_add-depth t c =
    let e = sym c.asked.ensures ∙ c.in-Enter.is in
    let h = enter-in _ _ _ _ (omega arith) _ e in
    omega arith

pub in_loop-in_loop-requires : goal.in_loop-in_loop-requires
in_loop-in_loop-requires t c =
    let e = sym c.asked.ensures ∙ c.in-Enter.is in
    let h = enter-in _ _ _ _ (omega arith) _ e in
    search rules

pub in_loop-returns-in_err-inner-in-Enter : goal.in_loop-returns-in_err-inner-in-Enter
in_loop-returns-in_err-inner-in-Enter t c =
    let e = sym c.asked.ensures ∙ c.in-Enter.is in
    let p = err_from_is_err_and c.from_residual-in_err-inner-in-Enter.result c.from_residual-in_err-inner-in-Enter.ensures.1 in
    rw (p.1, p.2) (looped-bad _ _ _ _ (omega arith) _ _ (enter-bad _ _ _ _ (omega arith) _ _ e c.in_err-inner-in-Enter.ensures))

pub in_loop-sequence-requires-in-Enter : goal.in_loop-sequence-requires-in-Enter
in_loop-sequence-requires-in-Enter t c =
    let e = sym c.asked.ensures ∙ c.in-Enter.is in
    let h = enter-in _ _ _ _ (omega arith) _ e in
    let l = c.in_ok-inner-in-Enter.ensures in
    let g = after-in _ _ _ _ h.0 _ _ _ (omega arith) l in
    search rules

pub in_loop-add-requires-in-Enter : goal.in_loop-add-requires-in-Enter
in_loop-add-requires-in-Enter t c =
    let e = sym c.asked.ensures ∙ c.in-Enter.is in
    let h = enter-in _ _ _ _ (omega arith) _ e in
    let l = c.in_ok-inner-in-Enter.ensures in
    let g = after-in _ _ _ _ h.0 _ _ _ (omega arith) l in
    (g.1.1, small _ _ _ _ g.1.0 _ (omega arith) c.in_ok-rest-in-Enter.ensures)

pub in_loop-closed-requires-in-Enter : goal.in_loop-closed-requires-in-Enter
in_loop-closed-requires-in-Enter t c =
    let e = sym c.asked.ensures ∙ c.in-Enter.is in
    let h = enter-in _ _ _ _ (omega arith) _ e in
    let l = c.in_ok-inner-in-Enter.ensures in
    let g = after-in _ _ _ _ h.0 _ _ _ (omega arith) l in
    rw c.add-in-Enter.ensures (small _ _ _ _ (omega arith) _ (omega arith) (enter _ _ _ _ (omega arith) _ _ _ _ e (omega arith) l c.in_ok-rest-in-Enter.ensures))

pub in_loop-returns-in_ok-rest-in-Enter : goal.in_loop-returns-in_ok-rest-in-Enter
in_loop-returns-in_ok-rest-in-Enter t c =
    let e = sym c.asked.ensures ∙ c.in-Enter.is in
    let h = enter-in _ _ _ _ (omega arith) _ e in
    let l = c.in_ok-inner-in-Enter.ensures in
    let g = after-in _ _ _ _ h.0 _ _ _ (omega arith) l in
    rw (c.closed-in-Enter.ensures, c.add-in-Enter.ensures) (looped _ _ _ _ (omega arith) _ _ (enter _ _ _ _ (omega arith) _ _ _ _ e (omega arith) l c.in_ok-rest-in-Enter.ensures))

pub in_loop-returns-in_err-rest-in-Enter : goal.in_loop-returns-in_err-rest-in-Enter
in_loop-returns-in_err-rest-in-Enter t c =
    let e = sym c.asked.ensures ∙ c.in-Enter.is in
    let h = enter-in _ _ _ _ (omega arith) _ e in
    let l = c.in_ok-inner-in-Enter.ensures in
    let g = after-in _ _ _ _ h.0 _ _ _ (omega arith) l in
    let p = err_from_is_err_and c.from_residual-in_err-rest-in-Enter.result c.from_residual-in_err-rest-in-Enter.ensures.1 in
    rw (p.1, p.2) (looped-bad _ _ _ _ (omega arith) _ _ (after-bad _ _ _ _ (omega arith) _ _ _ _ e (omega arith) l c.in_err-rest-in-Enter.ensures))

pub in_loop-closed-requires-in-Leave : goal.in_loop-closed-requires-in-Leave
unfolding Small
in_loop-closed-requires-in-Leave t c = (omega arith, omega arith)

pub in_loop-returns-in-Leave : goal.in_loop-returns-in-Leave
in_loop-returns-in-Leave t c = rw c.closed-in-Leave.ensures (looped _ _ _ _ (omega arith) _ _ (leave _ _ _ _ (omega arith) (sym c.asked.ensures ∙ c.in-Leave.is)))

pub in_loop-returns-in-Finish : goal.in_loop-returns-in-Finish
in_loop-returns-in-Finish t c =
    elim c.in-Finish.is [
      | inl e ↦ absurd (no_finish _ _ _ _ (omega arith) (sym c.asked.ensures ∙ e) (omega arith))
      | inr e ↦ looped-bad _ _ _ _ (omega arith) _ _ (refuse _ _ _ _ (omega arith) (sym c.asked.ensures ∙ e))
    ]

pub sequence-loop-k-init : goal.sequence-loop-k-init
sequence-loop-k-init t c = ((omega arith, omega arith), (omega arith, ahead_none _ _ _ _))

pub sequence-overflow_add-steps : goal.sequence-overflow_add-steps
sequence-overflow_add-steps t c =
    let e = sym c.asked.ensures ∙ c.in-Go.is in
    let h = go-in _ _ _ _ (omega arith) _ e in
    omega arith

pub sequence-loop-k-smaller-in-Go : goal.sequence-loop-k-smaller-in-Go
sequence-loop-k-smaller-in-Go t c = omega arith

pub sequence-loop-k-preserved-in-Go : goal.sequence-loop-k-preserved-in-Go
sequence-loop-k-preserved-in-Go t c =
    let e = sym c.asked.ensures ∙ c.in-Go.is in
    let h = go-in _ _ _ _ (omega arith) _ e in
    ((omega arith, omega arith), (omega arith, rw c.least-steps.ensures (ahead-go _ _ _ _ (omega arith) _ _ c.loop-k.invariant.1.1 _ e)))

pub sequence-overflow_add-depth : goal.sequence-overflow_add-depth
sequence-overflow_add-depth t c = omega arith

pub sequence-in_loop-requires : goal.sequence-in_loop-requires
sequence-in_loop-requires t c =
    let e = sym c.asked.ensures ∙ c.in-Enter.is in
    let h = enter-in _ _ _ _ (omega arith) _ e in
    search rules

pub sequence-returns-in-Leave : goal.sequence-returns-in-Leave
sequence-returns-in-Leave t c =
    let e = sym c.asked.ensures ∙ c.in-Leave.is in
    ends-leave _ _ _ _ (omega arith) _ _ c.loop-k.invariant.1.1 (omega arith) e

pub sequence-returns-in-Refuse : goal.sequence-returns-in-Refuse
sequence-returns-in-Refuse t c =
    let e = sym c.asked.ensures ∙ c.in-Refuse.is in
    ends-refuse _ _ _ _ (omega arith) _ _ c.loop-k.invariant.1.1 e

pub sequence-returns : goal.sequence-returns
sequence-returns t c = absurd (omega arith)

pub sequence-overflow_add-steps-in-Enter : goal.sequence-overflow_add-steps-in-Enter
sequence-overflow_add-steps-in-Enter t c =
    let e = sym c.asked.ensures ∙ c.in-Enter.is in
    let h = enter-in _ _ _ _ (omega arith) _ e in
    let l = c.in_ok-inner-in-Enter.ensures in
    let g = after-in _ _ _ _ h.0 _ _ _ (omega arith) l in
    omega arith

pub sequence-loop-k-smaller : goal.sequence-loop-k-smaller
sequence-loop-k-smaller t c =
    let e = sym c.asked.ensures ∙ c.in-Enter.is in
    let h = enter-in _ _ _ _ (omega arith) _ e in
    let l = c.in_ok-inner-in-Enter.ensures in
    let g = after-in _ _ _ _ h.0 _ _ _ (omega arith) l in
    omega arith

pub sequence-loop-k-preserved : goal.sequence-loop-k-preserved
sequence-loop-k-preserved t c =
    let e = sym c.asked.ensures ∙ c.in-Enter.is in
    let h = enter-in _ _ _ _ (omega arith) _ e in
    let l = c.in_ok-inner-in-Enter.ensures in
    let g = after-in _ _ _ _ h.0 _ _ _ (omega arith) l in
    ((omega arith, omega arith), (omega arith, rw c.least-steps-in-Enter.ensures (ahead_enter _ _ _ _ (omega arith) _ _ c.loop-k.invariant.1.1 _ _ _ e (omega arith) l)))

pub sequence-returns-in_err-inner-in-Enter : goal.sequence-returns-in_err-inner-in-Enter
sequence-returns-in_err-inner-in-Enter t c =
    let e = sym c.asked.ensures ∙ c.in-Enter.is in
    let p = err_from_is_err_and c.from_residual.result c.from_residual.ensures.1 in
    rw (p.1, p.2) (ends-bad _ _ _ _ (omega arith) _ _ c.loop-k.invariant.1.1 _ _ e c.in_err-inner-in-Enter.ensures)

pub sequence-returns-in-Finish : goal.sequence-returns-in-Finish
sequence-returns-in-Finish t c =
    let e = sym c.asked.ensures ∙ c.in-Finish.is in
    rw c.least-steps-in-Finish.ensures (ends-finish _ _ _ _ (omega arith) _ _ c.loop-k.invariant.1.1 e)
