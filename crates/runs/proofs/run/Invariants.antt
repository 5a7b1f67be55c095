use mathlib.Core.Path.{◌≡◌}
use lib.ListN.{length}
use Rattle.ec20.specs.File.{records_from}
use Rattle.ec20.specs.Memory.{memory}
use Rattle.ec20.specs.Step.{open_loops, world}
use Rattle.runs.proofs.Going.{Going}
use Rattle.runs.proofs.run.Given as goal

abbrev pub invariant-loop-more : goal.invariant-loop-more
invariant-loop-more l =
    Going (records_from l.f l.first l.count) l.u l.budget (memory l.x l.initial.y l.initial.m l.initial.sm l.initial.t l.initial.d l.initial.tv) (world (memory l.x l.y l.m l.sm l.t l.d l.tv) (open_loops l.left l.back) l.s) l.more
    × (length l.y ≡ length l.initial.y) × (length l.m ≡ length l.initial.m) × (length l.sm ≡ length l.initial.sm) × (length l.t ≡ length l.initial.t) × (length l.d ≡ length l.initial.d) × (length l.tv ≡ length l.initial.tv)

abbrev pub decreases-loop-more : goal.decreases-loop-more
decreases-loop-more l =
    l.more
