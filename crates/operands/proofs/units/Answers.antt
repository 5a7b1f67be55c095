-- The base of a timer by its number. Assumes nothing.
use mathlib.Core.Path.{◌≡◌, refl, sym, subst}
use native.Mathlib.Omega.{arith}
use borrow.Author.Tests.{lt-ltb, le-ltb}
use Prim.Native.Nat.{ℕ, ◌≤◌}
use Rattle.ec20.specs.Timers.{base_of, given_to, units_of, Few}
use Rattle.ec20.specs.declared.Units.{Units}
use Rattle.operands.proofs.units.Goals as goal

few : (u : Units) (i : ℕ) {r : ℕ} → Few u → r ≡ units_of u i → (r ≡ units_of u i) × (r ≤ 32767)
few u i h e = (e, subst (λ (n : ℕ). n ≤ 32767) (sym e) (h i))

pub returns-then-i-lt210 : goal.returns-then-i-lt210
unfolding units_of base_of given_to
returns-then-i-lt210 c =
    let a = c.args in
    few a.u a.i c.requires (rw (lt-ltb a.i 210 c.if-i-lt210.true) refl)

pub returns-then-i-lt252 : goal.returns-then-i-lt252
unfolding units_of base_of given_to
returns-then-i-lt252 c =
    let a = c.args in
    few a.u a.i c.requires (rw (le-ltb a.i 210 (omega arith), lt-ltb a.i 252 c.if-i-lt252.true) refl)

pub returns : goal.returns
unfolding units_of base_of given_to
returns c =
    let a = c.args in
    few a.u a.i c.requires (rw (le-ltb a.i 210 (omega arith), le-ltb a.i 252 (omega arith)) refl)
