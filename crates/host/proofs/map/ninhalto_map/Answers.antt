-- What told ensures of the map that use_map gave, and what use_map ensures. Assumes nothing.
use mathlib.Core.Path.{refl, ◌∙◌}
use Rattle.host.proofs.ToldLaws.{mapped}
use Rattle.host.proofs.map.ninhalto_map.Goals as goal

pub returns : goal.returns
returns c =
    let t = mapped c.use_map.ensures refl in
    let m = c.told-m.ensures in
    record { number_after = m.number_told ∙ t.0; at_after = m.at_told ∙ t.1.0; read_after = m.read_told ∙ t.1.1.0; written_after = m.written_told ∙ t.1.1.1 }
