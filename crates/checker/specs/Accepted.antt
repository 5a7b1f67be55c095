-- Where the records of an accepted file stand.
use Rattle.std.specs.Prelude.{ℕ, List, Result, Ok, Err}
use Rattle.ec20.specs.Check.{check_of}
use Rattle.ec20.specs.File.{first_of, count_of}
use Rattle.ec20.specs.Verdict.{Verdict}
use Rattle.ec20.specs.declared.Frame.{Frame}
use Rattle.ec20.specs.declared.Refusal.{Refusal}

-- by the verdict: the frame of an accepted file; else the refusal
abbrev pub framed_by : Verdict → List ℕ → Result Frame Refusal
framed_by (Ok a) f = Ok (record { first = first_of f; count = count_of f })
framed_by (Err r) f = Err r

unfoldable pub accepted_of : List ℕ → Result Frame Refusal
accepted_of f = framed_by (check_of f) f
