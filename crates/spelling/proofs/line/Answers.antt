-- `spelling::line` meets its contract. Assumes nothing.
use Prim.Native.Nat.{◌+◌, ◌<◌}
use mathlib.Core.Path.{sym, ◌∙◌}
use native.Mathlib.Omega.{arith}
use lib.ListN.{length}
use Rattle.spelling.proofs.Laws.{named_in, line-unnamed, start-misspelt, length-misspelt, line-spelt, line-in}
use Rattle.spelling.proofs.line.Goals as goal

pub returns-then-not-name_at-clause-value : goal.returns-then-not-name_at-clause-value
returns-then-not-name_at-clause-value c = line-unnamed _ _ _ (sym c.name_at.ensures ∙ c.if-not-name_at.true)

pub overflow_add-from : goal.overflow_add-from
overflow_add-from c =
    let a = c.args in
    let h : a.from + 8 < length a.s.now = named_in a.s.now _ (sym c.name_at.ensures ∙ c.if-not-name_at.false) in
    omega arith

pub returns-in_err-start-clause-value : goal.returns-in_err-start-clause-value
returns-in_err-start-clause-value c =
    c.from_residual.ensures ∙ start-misspelt _ _ _ (sym c.name_at.ensures ∙ c.if-not-name_at.false) _ c.part.ensures.value c.in_err-start.was

pub returns-in_err-length-clause-value : goal.returns-in_err-length-clause-value
returns-in_err-length-clause-value c =
    c.from_residual-in_err-length.ensures
    ∙ length-misspelt _ _ _ (sym c.name_at.ensures ∙ c.if-not-name_at.false) _ c.part.ensures.value _ _ c.in_ok-start.was _ c.part-2.ensures.value
    c.in_err-length.was

pub returns : goal.returns
returns c =
    let h = sym c.name_at.ensures ∙ c.if-not-name_at.false in
    record {
      value = line-spelt _ _ _ h _ c.part.ensures.value _ _ c.in_ok-start.was _ c.part-2.ensures.value _ _ c.in_ok-length.was;
      line_in = line-in _ _ _ h _ c.part.ensures.value _ _ c.in_ok-start.was _ c.part-2.ensures.value _ _ c.in_ok-length.was c.part.ensures.part_in c.part-2.ensures.part_in;
    }
