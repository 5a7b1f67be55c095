use mathlib.Core.Path.{◌∙◌}
use Rattle.std.proofs.Common.{inl, inr}
use Rattle.faults.proofs.Roles.{unused, bit-read, bit-written, source, target, changed, quotient, timer, units, passes, label}
use Rattle.faults.proofs.is_allowed.Goals as goal

pub returns-in-Unused : goal.returns-in-Unused
returns-in-Unused c = c.is_unused.ensures ∙ unused _ _ c.in-Unused.is

pub returns-in-BitRead : goal.returns-in-BitRead
returns-in-BitRead c = c.is_bit_read.ensures ∙ bit-read _ _ c.in-BitRead.is

pub returns-in-BitWritten : goal.returns-in-BitWritten
returns-in-BitWritten c = c.is_bit_written.ensures ∙ bit-written _ _ c.in-BitWritten.is

pub returns-in-Source : goal.returns-in-Source
returns-in-Source c = c.is_source.ensures ∙ source _ _ c.in-Source.is

pub returns-in-Target : goal.returns-in-Target
returns-in-Target c =
    elim c.in-Target.is [ inl e ↦ c.is_target.ensures ∙ target _ _ e | inr e ↦ c.is_target.ensures ∙ changed _ _ e ]

pub returns-in-Quotient : goal.returns-in-Quotient
returns-in-Quotient c = rw (c.words_in.ensures, c.wide.ensures.0) (quotient _ _ c.in-Quotient.is)

pub returns-in-Timer : goal.returns-in-Timer
returns-in-Timer c = c.one_of.ensures ∙ timer _ _ c.in-Timer.is

pub returns-in-Units : goal.returns-in-Units
returns-in-Units c = c.constant_from.ensures ∙ units _ _ c.in-Units.is

pub returns-in-Passes : goal.returns-in-Passes
returns-in-Passes c = c.constant_from-in-Passes.ensures ∙ passes _ _ c.in-Passes.is

pub returns-in-Label : goal.returns-in-Label
returns-in-Label c = c.one_of-in-Label.ensures ∙ label _ _ c.in-Label.is
