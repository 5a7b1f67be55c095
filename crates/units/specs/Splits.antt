-- Which declared block a program itself reaches over (ours): by the line of 13, "an operand's extent is partly in the block", seen before a move is tried.
use Rattle.std.specs.Prelude.{List, ℕ}
use Rattle.ec20.specs.Basics.{pick}
use Rattle.ec20.specs.File.{framed, records_of}
use Rattle.ec20.specs.Move.{split_fault}
use Rattle.ec20.specs.Judged.{Judged}
use Rattle.ec20.specs.Judged.{Fine}
use Rattle.units.specs.Report.{block_of}
use Rattle.units.specs.declared.Declaration.{Declaration}

-- the first record of a program file that has an operand partly in the declared block; what is no program file has none
unfoldable pub split_in : List ℕ → Declaration → Judged
split_in f a = pick (framed f) (split_fault (records_of f) (block_of a)) Fine
