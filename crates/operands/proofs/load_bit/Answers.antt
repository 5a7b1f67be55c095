-- The bit of the table of that kind. Assumes nothing.
use borrow.Author.Tests.{ne_eqb}
use mathlib.Core.Bool.{Bool}
use mathlib.Core.Path.{ap}
use native.Mathlib.Omega.{arith}
use Prim.Native.Nat.{ℕ}
use lib.Dec.{eqb}
use Rattle.ec20.specs.Memory.{load_bit, bits_of}
use Rattle.operands.proofs.load_bit.Goals as goal

abbrev on : ℕ → Bool
on b = eqb b 1

pub returns-then-k-eq2 : goal.returns-then-k-eq2
unfolding load_bit bits_of
returns-then-k-eq2 c = λ d tv. rw c.if-k-eq2.true (ap on c.bit_at.ensures.0)

pub returns-then-k-eq3 : goal.returns-then-k-eq3
unfolding load_bit bits_of
returns-then-k-eq3 c = λ d tv. rw c.if-k-eq3.true (ap on c.bit_at-then-k-eq3.ensures.0)

pub returns-then-k-lt4 : goal.returns-then-k-lt4
unfolding load_bit bits_of
returns-then-k-lt4 c =
    let k : ℕ = c.args.o.kind in
    λ d tv. rw (ne_eqb k 2 c.if-k-eq2.false, ne_eqb k 3 c.if-k-eq3.false, ne_eqb k 4 (λ e. omega (arith, c.if-k-lt4.true)), ne_eqb k 5 (λ e. omega (arith, c.if-k-lt4.true))) (ap on c.bit_at-then-k-lt4.ensures.0)

pub returns-then-k-eq4 : goal.returns-then-k-eq4
unfolding load_bit bits_of
returns-then-k-eq4 c = λ d tv. rw c.if-k-eq4.true (ap on c.bit_at-then-k-eq4.ensures.0)

pub returns-then-k-eq5 : goal.returns-then-k-eq5
unfolding load_bit bits_of
returns-then-k-eq5 c = λ d tv. rw c.if-k-eq5.true (ap on c.bit_at-then-k-eq5.ensures.0)

pub returns : goal.returns
unfolding load_bit bits_of
returns c =
    let k : ℕ = c.args.o.kind in
    λ d tv. rw (ne_eqb k 2 (λ e. omega (arith, c.if-k-lt4.false)), ne_eqb k 3 (λ e. omega (arith, c.if-k-lt4.false)), ne_eqb k 4 c.if-k-eq4.false, ne_eqb k 5 c.if-k-eq5.false) (ap on c.bit_at-2.ensures.0)
