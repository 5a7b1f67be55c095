-- What is made does not depend on what stood there. Assumes nothing.
use mathlib.Core.List.{List}
use mathlib.Core.Path.{ap, ◌∙◌}
use Prim.Native.Nat.{ℕ}
use lib.ListN.{length}
use Rattle.cases.specs.Filled.{copied}
use Rattle.vectors_requests.proofs.Made.{made}
use Rattle.vectors_requests.proofs.before.bits_anew.Goals as goal

pub returns : goal.returns
returns c =
    let a = c.args in
    let e = c.fill.ensures ∙ made a.rule 250 a.seed 250 a.b.now c.requires.0 c.requires.1 in
    c.copy.ensures ∙ ap (λ (t : List ℕ). copied t (length a.m.now)) e
