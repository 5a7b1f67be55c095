-- What the moved file is.
use Rattle.std.specs.Prelude.{ℕ, List, ◌≡◌, ℤ, length}
use Rattle.ec20.specs.Exchanged.{Done}
use Rattle.ec20.specs.Check.{check_for}
use Rattle.ec20.specs.Code.{program_of}
use Rattle.ec20.specs.Devices.{Device}
use Rattle.ec20.specs.Exchange.{swapped, exchanged, exchange_for}
use Rattle.ec20.specs.Move.{Block, moved_file}
use Rattle.moving.specs.Rename.{Swap, Whole, rename_program}

-- The file g is the file f with its block moved to q:
pub record Moves (v : Device) (f : List ℕ) (b : Block) (q : ℕ) (g : List ℕ) : Type 0 where
  -- "the old file, byte for byte, with each D number in the block raised or lowered by the distance"
  pub bytes : g ≡ moved_file b q f
  -- the check says of it what it says of the old one: accepted, with as many records and the same W
  pub answer : check_for v g ≡ check_for v f
  -- as a program it is the old one with its D numbers renamed, a word of the block as the word at the same distance in the place
  pub program : program_of g ≡ rename_program (swapped b q) (program_of f)
  -- each extent of the old program goes along whole
  pub whole : (k : ℕ) → Whole (swapped b q) ((program_of f).code k)
  -- and the renaming is one of D numbers, its own inverse
  pub swap : Swap (swapped b q) v.words
  -- the exchange of block and place is granted for every D table of the right size, and reads through that renaming
  pub exchange : (d : List ℤ) → length d ≡ v.words → exchange_for v d b q ≡ record { answer = Done; words = exchanged b q d }
