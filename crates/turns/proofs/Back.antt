-- A copy of a memory file in which block and place are exchanged back. Assumes nothing.
use Prim.Native.Nat.{ℕ}
use mathlib.Core.List.{List}
use mathlib.Core.Path.{◌≡◌, ap, subst, ◌∙◌}
use Rattle.std.specs.Prelude.{Option}
use Rattle.ec20.specs.Move.{Block}
use Rattle.image.specs.Image.{plant_of, image_of}
use Rattle.memories.specs.Images.{exchange_in}
use Rattle.turns.specs.Turns.{FirstApart}

pub back-apart : (l : Block) (q : ℕ) (a back b c : List ℕ) (r : Option ℕ) → FirstApart a back r
    → back ≡ image_of (exchange_in 16892 l q (plant_of c)).plant → c ≡ b
    → FirstApart a (image_of (exchange_in 16892 l q (plant_of b)).plant) r
back-apart l q a back b c r f e same =
    subst (λ (x : List ℕ). FirstApart a x r) (e ∙ ap (λ (x : List ℕ). image_of (exchange_in 16892 l q (plant_of x)).plant) same) f
