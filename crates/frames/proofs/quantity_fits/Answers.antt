use mathlib.Core.Path.{refl}
use native.Mathlib.Omega.{arith}
use borrow.Author.Tests.{ne_eqb}
use Rattle.modbus.specs.Exceptions.{quantity_fits}
use Rattle.frames.proofs.quantity_fits.Goals as goal

pub returns-in-1 : goal.returns-in-1
unfolding quantity_fits
returns-in-1 c = rw c.in-1.is refl

pub returns-in-3 : goal.returns-in-3
unfolding quantity_fits
returns-in-3 c = rw c.in-3.is refl

pub returns-in-5 : goal.returns-in-5
unfolding quantity_fits
returns-in-5 c = rw c.in-5.is refl

pub returns-in-6 : goal.returns-in-6
unfolding quantity_fits
returns-in-6 c = rw c.in-6.is refl

pub returns-in-15 : goal.returns-in-15
unfolding quantity_fits
returns-in-15 c = rw c.in-15.is refl

pub returns-in_default : goal.returns-in_default
unfolding quantity_fits
returns-in_default c =
    rw (ne_eqb c.args.n 1 (omega arith), ne_eqb c.args.n 3 (omega arith), ne_eqb c.args.n 5 (omega arith), ne_eqb c.args.n 6 (omega arith), ne_eqb c.args.n 15 (omega arith)) refl
