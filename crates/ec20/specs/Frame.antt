-- What a reader of the frame tells: whole, with the first record's byte and the count of records; or broken.
use Rattle.std.specs.Prelude.{ℕ, Option, Some, None}
use Rattle.ec20.specs.declared.Frame.{Frame as WholeFrame}

abbrev pub Frame : Type 0
Frame = Option WholeFrame

abbrev pub Whole : ℕ → ℕ → Frame
Whole i n = Some (record { first = i; count = n })

pattern abbrev pub Broken : Frame
Broken = None
