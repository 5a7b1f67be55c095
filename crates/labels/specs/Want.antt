-- What a search looks for: the NEXT of a FOR, or a label's place.
use Rattle.std.specs.Prelude.{Bool}
use Rattle.ec20.specs.Control.{closes, marks}
use Rattle.ec20.specs.declared.Control.{Control}
use Rattle.labels.specs.declared.Want.TheVariants.{Close, Place}
use Rattle.labels.specs.declared.Want.{Want}

abbrev pub want_of : Want → Control → Bool
want_of Close = closes
want_of (Place l) = marks l
