-- What is found out of a file once, for any number of scans of it. The check's answer stands in it, and so do the facts that a run asks of an accepted
-- program: only `make_ready` and `look_up` give them.
use Rattle.std.specs.Prelude.{ℕ, List, Result, Ok, Err, ◌≡◌, length}
use Rattle.ec20.specs.Check.{check_of}
use Rattle.ec20.specs.Code.{program_in, program_of}
use Rattle.ec20.specs.Control.{controls_of}
use Rattle.ec20.specs.File.{records_from}
use Rattle.ec20.specs.Verdict.{Accepted, Refused}
use Rattle.ec20.specs.declared.Frame.{Frame}
use Rattle.ec20.specs.declared.Refusal.{Refusal}
use Rattle.jumps.specs.Prepared.{Prepared}
use Rattle.records.specs.Ranges.{Held}
use Rattle.step.specs.Ready.{Known}

-- where the records of an accepted file begin, and how many there are; or why it is refused
abbrev pub Ready : Type 0
Ready = Result Frame Refusal

-- of an accepted file: its records, which are its program, and whose numbers the instruction table has
pub record Fit (f : List ℕ) (w : Frame) : Type 0 where
  pub accepted : (n : ℕ) × (w : ℕ) × (check_of f ≡ Accepted n w)
  pub held : Held (length f) w.first w.count
  pub program : program_in (records_from f w.first w.count) ≡ program_of f
  pub known : Known f w.first w.count

-- p was made of the file f
abbrev pub Made : List ℕ → Ready → Type 0
Made f (Ok w) = Fit f w
Made f (Err r) = check_of f ≡ Refused r.number r.at

-- t has where each record of the accepted file goes
abbrev pub Goes : List ℕ → Ready → List ℕ → Type 0
Goes f (Ok w) t = Prepared (controls_of (program_in (records_from f w.first w.count))) w.count t
Goes f (Err r) t = Unit {0}
