-- "Jobs now move several blocks to places we name, each by a pool of just the block's length."
use Rattle.std.specs.Prelude.{ℕ, ◌+◌, Bool, ◌||◌, List, [], ◌∷◌, map, ℤ, get_or}
use Rattle.ec20.specs.Devices.{Device, meets}
use Rattle.ec20.specs.Exchange.{exchanged}
use Rattle.ec20.specs.Move.{Block, block, Pool, pool, Move, move_for, moved_file}

-- one move of a job: a block, and where the place begins that is named for it
pub record Task : Type 0 where
  pub block : Block
  pub place : ℕ

abbrev pub task : Block → ℕ → Task
task b q = record { block = b; place = q }

-- "by a pool of just the block's length"
abbrev pub pool_of : Task → Pool
pool_of t = pool t.place (t.place + t.block.length)

-- so the move of a file by one task
abbrev pub move_by : Device → List ℕ → Task → Move
move_by v f t = move_for v f t.block (pool_of t)

-- the way back: from the place to the block
abbrev pub back : Task → Task
back t = task (block t.place t.block.length) t.block.start

-- "all four ranges disjoint": not so, if block or place of the one and block or place of the other have a word in common. That a place does not meet
-- its own block the move itself asks (14).
unfoldable pub tasks_meet : Task → Task → Bool
tasks_meet s t =
    meets s.block.start s.block.length t.block.start t.block.length
    || meets s.block.start s.block.length t.place t.block.length
    || meets s.place s.block.length t.block.start t.block.length
    || meets s.place s.block.length t.place t.block.length

-- the file with all blocks moved, one after the other in the order of the list
unfoldable pub moved_by : List Task → List ℕ → List ℕ
moved_by [] f = f
moved_by (t ∷ ts) f = moved_by ts (moved_file t.block t.place f)

-- the D table with each block and its place exchanged, one after the other in the order of the list
unfoldable pub exchanged_by : List Task → List ℤ → List ℤ
exchanged_by [] d = d
exchanged_by (t ∷ ts) d = exchanged_by ts (exchanged t.block t.place d)

-- a task as three numbers: "START LENGTH PLACE"
abbrev pub task_of : List ℕ → Task
task_of l = task (block (get_or l 0 0) (get_or l 1 0)) (get_or l 2 0)

abbrev pub tasks_of : List (List ℕ) → List Task
tasks_of ls = map task_of ls
