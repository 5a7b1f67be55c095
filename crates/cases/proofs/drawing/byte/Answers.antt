-- A byte of bits, or one of the two of a word. Assumes nothing.
use Rattle.std.proofs.Common.{ℕ, ◌-◌, ◌/◌, ◌%◌, ap, ◌∙◌, arith, le-ltb, lt-ltb, eq-eqb, ne_eqb}
use Rattle.cases.specs.Drawn.{word_of, byte_by}
use Rattle.cases.proofs.drawing.byte.Goals as goal

pub returns-then-i-bits : goal.returns-then-i-bits
unfolding byte_by
returns-then-i-bits c = rw (lt-ltb _ _ c.if-i-bits.true) c.drawn-draw.ensures

pub returns-then-past-eq0 : goal.returns-then-past-eq0
unfolding byte_by
returns-then-past-eq0 c =
    let a = c.args in
    let w = c.word-w.ensures ∙ ap (word_of a.rule) c.drawn-draw.ensures in
    rw (le-ltb _ _ c.if-i-bits.false, eq-eqb ((a.i - a.bits) % 2) 0 (omega arith)) (ap (λ (u : ℕ). u % 256) w)

pub returns : goal.returns
unfolding byte_by
returns c =
    let a = c.args in
    let w = c.word-w.ensures ∙ ap (word_of a.rule) c.drawn-draw.ensures in
    rw (le-ltb _ _ c.if-i-bits.false, ne_eqb ((a.i - a.bits) % 2) 0 (omega arith)) (ap (λ (u : ℕ). u / 256) w)
