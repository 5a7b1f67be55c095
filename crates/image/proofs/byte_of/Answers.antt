-- The low and the high byte of a word. Assumes nothing.
use mathlib.Core.Path.{ap, subst, ◌∙◌}
use native.Mathlib.Omega.{arith}
use Prim.Native.Nat.{◌/◌, ◌%◌, ◌<◌, ℕ}
use lib.IntN.{ℤ}
use lib.Signed.{mag}
use borrow.Author.Tests.{eq-eqb, ne_eqb}
use Rattle.ec20.specs.Numbers.{low}
use mir.Syntax.{w64}
use Rattle.ints.proofs.Parts.{said}
use Rattle.image.specs.Image.{byte_of}
use Rattle.image.proofs.byte_of.Goals as goal

pub returns-then-i-eq0 : goal.returns-then-i-eq0
unfolding byte_of
returns-then-i-eq0 c =
    let a = c.args in
    let z = c.word_at in record { value = rw (eq-eqb (a.i % 2) 0 (omega arith)) (ap (λ (u : ℕ). u % 256) (c.bits-u.ensures ∙ ap (low 65536) (said w64 z.type_inv z.ensures.0))); i_bound = subst (λ (v : ℤ). mag v < 32768) z.ensures.0 z.ensures.1 }

pub returns-else-i-eq0 : goal.returns-else-i-eq0
unfolding byte_of
returns-else-i-eq0 c =
    let a = c.args in
    let z = c.word_at in record { value = rw (ne_eqb (a.i % 2) 0 (omega arith)) (ap (λ (u : ℕ). u / 256) (c.bits-u.ensures ∙ ap (low 65536) (said w64 z.type_inv z.ensures.0))); i_bound = subst (λ (v : ℤ). mag v < 32768) z.ensures.0 z.ensures.1 }
