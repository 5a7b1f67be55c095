-- The check in stages, the last first: what each of the checker's functions answers. `stage` turns a judgement into the verdict.
use Rattle.std.specs.Prelude.{ℕ, Err}
use Rattle.ec20.specs.Basics.{then}
use Rattle.ec20.specs.Check.{judge_program, w_of}
use Rattle.ec20.specs.Code.{program_in}
use Rattle.ec20.specs.Control.{controls_of}
use Rattle.ec20.specs.Devices.{ec20}
use Rattle.ec20.specs.File.{Records}
use Rattle.ec20.specs.Labels.{first_unlabelled}
use Rattle.ec20.specs.Loops.{first_unsound, too_long}
use Rattle.ec20.specs.Operands.{first_bad}
use Rattle.ec20.specs.Judged.{Judged}
use Rattle.ec20.specs.Judged.{Fine}
use Rattle.ec20.specs.Verdict.{Verdict}
use Rattle.ec20.specs.Verdict.{Accepted}

-- no fault: accepted, with so many records and steps
abbrev pub stage : ℕ → ℕ → Judged → Verdict
stage n w Fine = Accepted n w
stage n w (Err r) = Err r

-- W of the records' program
abbrev pub steps_in : Records → ℕ
steps_in rs = w_of (program_in rs)

-- 7, then 8 by a count of steps
unfoldable pub from_jumps : Records → ℕ → Judged
from_jumps rs w = then (first_unlabelled (controls_of (program_in rs)) rs.count) (too_long w)

-- 6, then 7 and 8
unfoldable pub from_loops : Records → Verdict
from_loops rs = stage rs.count (steps_in rs) (then (first_unsound (controls_of (program_in rs)) rs.count) (from_jumps rs (steps_in rs)))

-- 5, then 6, 7 and 8
unfoldable pub from_rungs : Records → Verdict
from_rungs rs = stage rs.count (steps_in rs) (judge_program (program_in rs))

-- 2 to 4, then 5 to 8
unfoldable pub from_records : Records → Verdict
from_records rs = stage rs.count (steps_in rs) (then (first_bad ec20 rs) (judge_program (program_in rs)))
