-- By the function's number. Assumes nothing.
use native.Mathlib.Omega.{arith}
use borrow.Author.Tests.{ne_eqb}
use Rattle.vectors_requests.specs.Wants.{reply_count}
use Rattle.vectors_requests.proofs.counts.of_reply.Goals as goal

pub returns-in-1 : goal.returns-in-1
unfolding reply_count
returns-in-1 c = rw c.in-1.is

pub returns-in-3 : goal.returns-in-3
unfolding reply_count
returns-in-3 c = rw c.in-3.is

pub returns-in-5 : goal.returns-in-5
unfolding reply_count
returns-in-5 c = rw c.in-5.is

pub returns-in-6 : goal.returns-in-6
unfolding reply_count
returns-in-6 c = rw c.in-6.is

pub returns-in-15 : goal.returns-in-15
unfolding reply_count
returns-in-15 c = rw c.in-15.is

pub returns-in-16 : goal.returns-in-16
unfolding reply_count
returns-in-16 c = rw c.in-16.is

pub returns-in_default : goal.returns-in_default
unfolding reply_count
returns-in_default c =
    let n = c.args.function in
    rw (
      ne_eqb n 1 (omega arith),
      ne_eqb n 3 (omega arith),
      ne_eqb n 5 (omega arith),
      ne_eqb n 6 (omega arith),
      ne_eqb n 15 (omega arith),
      ne_eqb n 16 (omega arith),
    )
    c.of_exception.ensures
