-- The loop's invariant: the state is within the stacks, and the judgement from record k on, in that state, is the whole judgement.
use mathlib.Core.Path.{◌≡◌}
use Prim.Native.Nat.{◌-◌, ◌≤◌}
use Rattle.ec20.specs.Code.{code_of, program_in}
use Rattle.ec20.specs.File.{records_from}
use Rattle.ec20.specs.Rung.{broken_from, first_broken}
use Rattle.rungs.specs.Within.{Within}
use Rattle.rungs.proofs.first_broken.Given as goal

abbrev pub invariant-loop-k : goal.invariant-loop-k
invariant-loop-k l =
    (l.k ≤ l.count) × Within l.s × (first_broken (program_in (records_from l.f l.first l.count)) ≡ broken_from (code_of (records_from l.f l.first l.count)) l.s l.k (l.count - l.k))
