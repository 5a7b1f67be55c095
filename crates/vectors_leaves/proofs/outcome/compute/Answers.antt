-- Each arm's function says what the definition does at the arm's numbers. Assumes nothing.
use mathlib.Core.Path.{◌≡◌, sym, ap, ap₂, ◌∙◌}
use mathlib.Core.Bool.{false}
use mathlib.Core.Logic.{◌⊎◌, ⊎_elim, inl, inr}
use Rattle.std.proofs.Common.{ℤ, FitsSigned, ℕ}
use native.Mathlib.Omega.{arith}
use borrow.Author.Tests.{ne_eqb}
use mir.Syntax.{w64}
use mir.Val.{to_z, of_z}
use mir.Facts.{to_z-of_z}
use Rattle.ec20.specs.declared.Outcome.{Outcome}
use Rattle.ec20.specs.Words.{value, compute_of, is}
use Rattle.vectors_leaves.proofs.outcome.compute.Goals as goal

-- an arm: its function's result, of the sources as the machine reads them back, is the definition's at the number k that n is
arm : (n h : ℕ) (a b : ℤ) → FitsSigned w64 a → FitsSigned w64 b → (k : ℕ) {r : Outcome} → r ≡ compute_of k h (to_z w64 (of_z w64 a)) (to_z w64 (of_z w64 b)) → n ≡ k → r ≡ compute_of n h a b
arm n h a b fa fb k e p =
    e ∙ ap₂ (compute_of k h) (to_z-of_z fa) (to_z-of_z fb) ∙ sym (ap (λ (n : ℕ). compute_of n h a b) p)

-- a number that is neither of an arm's two
neither : (n x y : ℕ) → ((n ≡ x) ⊎ (n ≡ y) → ⊥) → is n x y ≡ false
neither n x y k = rw (ne_eqb n x (λ p. k (inl p)), ne_eqb n y (λ p. k (inr p)))

pub sqt-requires : goal.sqt-requires
sqt-requires c = rw (to_z-of_z c.ranges.a) (omega arith)

pub returns-in-33 : goal.returns-in-33
unfolding compute_of
returns-in-33 c =
    ⊎_elim (arm _ _ _ _ c.ranges.a c.ranges.b 33 c.add.ensures) (arm _ _ _ _ c.ranges.a c.ranges.b 49 c.add.ensures) c.in-33.is

pub returns-in-34 : goal.returns-in-34
unfolding compute_of
returns-in-34 c =
    ⊎_elim (arm _ _ _ _ c.ranges.a c.ranges.b 34 c.sub.ensures) (arm _ _ _ _ c.ranges.a c.ranges.b 50 c.sub.ensures) c.in-34.is

pub returns-in-35 : goal.returns-in-35
unfolding compute_of
returns-in-35 c =
    ⊎_elim (arm _ _ _ _ c.ranges.a c.ranges.b 35 c.div.ensures) (arm _ _ _ _ c.ranges.a c.ranges.b 52 c.div.ensures) c.in-35.is

pub returns-in-36 : goal.returns-in-36
unfolding compute_of
returns-in-36 c =
    ⊎_elim (arm _ _ _ _ c.ranges.a c.ranges.b 36 c.sqt.ensures) (arm _ _ _ _ c.ranges.a c.ranges.b 53 c.sqt.ensures) c.in-36.is

pub returns-in-37 : goal.returns-in-37
unfolding compute_of
returns-in-37 c =
    ⊎_elim (arm _ _ _ _ c.ranges.a c.ranges.b 37 c.inc.ensures) (arm _ _ _ _ c.ranges.a c.ranges.b 54 c.inc.ensures) c.in-37.is

pub returns-in-38 : goal.returns-in-38
unfolding compute_of
returns-in-38 c =
    ⊎_elim (arm _ _ _ _ c.ranges.a c.ranges.b 38 c.dec.ensures) (arm _ _ _ _ c.ranges.a c.ranges.b 55 c.dec.ensures) c.in-38.is

pub returns-in-39 : goal.returns-in-39
unfolding compute_of
returns-in-39 c = arm _ _ _ _ c.ranges.a c.ranges.b 39 c.vabs.ensures c.in-39.is

pub returns-in-40 : goal.returns-in-40
unfolding compute_of
returns-in-40 c = arm _ _ _ _ c.ranges.a c.ranges.b 40 c.neg.ensures c.in-40.is

pub returns-in-51 : goal.returns-in-51
unfolding compute_of
returns-in-51 c = arm _ _ _ _ c.ranges.a c.ranges.b 51 c.mul.ensures c.in-51.is

pub returns-in_default : goal.returns-in_default
unfolding compute_of
returns-in_default c =
    let n = c.args.n in
    c.stored.ensures
    ∙ ap value (to_z-of_z c.ranges.a)
    ∙ sym
    (rw (
      neither n 33 49 (omega arith),
      neither n 34 50 (omega arith),
      neither n 35 52 (omega arith),
      neither n 36 53 (omega arith),
      neither n 37 54 (omega arith),
      neither n 38 55 (omega arith),
      ne_eqb n 39 (omega arith),
      ne_eqb n 40 (omega arith),
      ne_eqb n 51 (omega arith),
    ))
