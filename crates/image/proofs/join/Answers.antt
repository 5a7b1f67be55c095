use native.Mathlib.Omega.{arith}
use Rattle.image.proofs.Filling.{filling-done}
use Rattle.image.proofs.Inverse.{joined-image, joined-plant}
use Rattle.image.proofs.join.Goals as goal

pub returns : goal.returns
returns c =
    let s = c.loop-i.invariant in
    let f = filling-done (omega (arith, s.0.size)) s.0 in record { filled = f; b_after = λ e. joined-image _ _ f e; b_after_2 = λ e z. joined-plant _ _ f e (λ j h. s.1 j (omega (arith, s.0.size))) z }
