use Rattle.commands.proofs.Series.{exchanged-in, from-same, not-refused}
use Rattle.commands.proofs.trial.run_moved.Goals as goal

pub returns : goal.returns
returns c =
    let alike = from-same _ _ c.start.ensures c.start-2.ensures (exchanged-in _ _ _ _ _ c.requires (c.in_image.ensures.value, (c.in_image.ensures.image_after, (c.in_image.ensures.image_after_2, c.in_image.ensures.by_index)))) in
    not-refused (c.ended.ensures.none_differs (c.parts-s.ensures c.requires alike))
