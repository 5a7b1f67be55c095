-- The loop's invariant: the first i bytes are written, of words of 16 bits. Assumes nothing.
use Prim.Native.Nat.{ℕ, ◌<◌}
use lib.ListN.{length}
use Rattle.ec20.specs.Memory.{memory}
use Rattle.ec20.specs.Plant.{plant}
use Rattle.image.specs.Image.{image_byte, Word16}
use Rattle.image.proofs.Filling.{Filling}
use Rattle.image.proofs.join.Given as goal

abbrev pub invariant-loop-i : goal.invariant-loop-i
invariant-loop-i l = Filling 0 (length l.initial.b) l.i (λ j. image_byte (plant (memory l.x l.y l.m l.sm l.t l.d l.tv) l.rest) j) l.b × ((j : ℕ) → j < l.i → Word16 l.d l.tv j)
