-- A pair of scans over memory files: the old program over one, the moved program over the other.
use Rattle.std.specs.Prelude.{ℕ, List, ◌≡◌}
use Rattle.ec20.specs.Move.{Block}
use Rattle.ec20.specs.Scan.{scan_of}
use Rattle.image.specs.Image.{plant_of, image_of}
use Rattle.memories.specs.Images.{exchange_in}
use Rattle.turns.specs.declared.turn.Turn.{Turn}
use Rattle.turns.specs.Turns.{answer_of, FirstApart}

-- The scans of f over the memory file x and of g over the memory file y, each with e elapsed milliseconds and a budget of n: t is told, and the files are
-- x' and y' after them. Where they differ is found with the block b and the place at q exchanged in y'.
pub record Paired (f g : List ℕ) (e n : ℕ) (b : Block) (q : ℕ) (x y : List ℕ) (t : Turn) (x' y' : List ℕ) : Type 0 where
  pub old_answer : t.old ≡ answer_of (scan_of f e n (plant_of x)).answer
  pub new_answer : t.new ≡ answer_of (scan_of g e n (plant_of y)).answer
  pub old_memory : plant_of x' ≡ (scan_of f e n (plant_of x)).plant
  pub new_memory : plant_of y' ≡ (scan_of g e n (plant_of y)).plant
  pub old_bytes : x' ≡ image_of (plant_of x')
  pub new_bytes : y' ≡ image_of (plant_of y')
  pub apart : FirstApart x' (image_of (exchange_in 16892 b q (plant_of y')).plant) t.apart
