-- What is compared is b with block and place exchanged. Assumes nothing.
use mathlib.Core.Path.{refl}
use Rattle.turns.proofs.Back.{back-apart}
use Rattle.turns.proofs.images.apart.Goals as goal

pub returns : goal.returns
returns c = back-apart _ _ _ _ _ _ _ c.first_apart.ensures c.in_image.ensures.image_after_2 refl
