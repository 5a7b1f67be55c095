-- Which records end a run: END alone.
use Rattle.std.specs.Prelude.{Bool, true, false}
use Rattle.ec20.specs.declared.Control.{Control}
use Rattle.ec20.specs.declared.Control.TheVariants.{Plain, Opens, Closes, Jumps, Marks, Ends}

unfoldable pub ends : Control → Bool
ends Plain = false
ends (Opens n) = false
ends Closes = false
ends (Jumps l) = false
ends (Marks l) = false
ends Ends = true
