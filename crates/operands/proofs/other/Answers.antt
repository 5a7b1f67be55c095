-- By the kind. Assumes nothing.
use mathlib.Core.Path.{refl, ◌∙◌}
use native.Mathlib.Omega.{arith}
use mir.Syntax.{w64}
use Rattle.ints.proofs.Parts.{said}
use Rattle.operands.proofs.Steps.{half-least, read-d, read-t, read-x, read-y, read-m, read_none}
use Rattle.operands.proofs.other.Goals as goal

pub returns-in-7 : goal.returns-in-7
returns-in-7 c =
    let s = said w64 c.number_at.type_inv refl in
    (read-d _ _ _ _ _ _ _ c.in-7.is (s ∙ c.number_at.ensures.0), rw s c.number_at.ensures.1)

pub returns-in-6 : goal.returns-in-6
returns-in-6 c =
    let s = said w64 c.word_at.type_inv refl in
    (read-t _ _ _ _ _ _ _ c.in-6.is (s ∙ c.word_at.ensures.0), rw s (omega (arith, c.word_at.ensures.1, half-least c.args.w)))

pub returns-in-2 : goal.returns-in-2
returns-in-2 c =
    let s = said w64 c.group_at.type_inv refl in
    (read-x _ _ _ _ _ _ _ c.in-2.is (s ∙ c.group_at.ensures.0), rw s c.group_at.ensures.1)

pub returns-in-3 : goal.returns-in-3
returns-in-3 c =
    let s = said w64 c.group_at-in-3.type_inv refl in
    (read-y _ _ _ _ _ _ _ c.in-3.is (s ∙ c.group_at-in-3.ensures.0), rw s c.group_at-in-3.ensures.1)

pub returns-then-k-g : goal.returns-then-k-g
returns-then-k-g c =
    let h = half-least c.args.w in
    (read_none _ _ _ _ _ _ _ c.if-k-g.true, omega arith)

pub returns-else-k-g : goal.returns-else-k-g
returns-else-k-g c =
    let n = c.in_default.in_default-own.rest in
    let s = said w64 c.group_at-else-k-g.type_inv refl in
    (read-m _ _ _ _ _ _ _ c.requires.1 n.0.0.0.1 n.0.0.1 n.0.1 n.1 (s ∙ c.group_at-else-k-g.ensures.0), rw s c.group_at-else-k-g.ensures.1)
