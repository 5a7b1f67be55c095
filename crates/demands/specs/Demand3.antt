-- DEMAND 3. "The mover picks the lowest right place, or says 'no place' exactly when there is none. Exchange the two ranges in the D table and
-- run the moved program: for any memory and any series of inputs, elapsed times and budgets, every scan gives the old answer and the old
-- memory with the ranges exchanged." It "still speaks of scans with no request between them" (document 02): a request names its registers by their
-- numbers, and after a move these hold other words. And it "holds with leftovers as part of memory": they are not exchanged, and the scans of both
-- programs leave the same.
use Rattle.std.specs.Prelude.{ℕ, ◌+◌, ◌*◌, ◌≤◌, ◌<◌, List, map, ◌↔◌, ◌≡◌, ℤ, length}
use Rattle.ec20.specs.Exchanged.{Done}
use Rattle.ec20.specs.Moved.{To, Refused}
use Rattle.ec20.specs.Check.{check_for}
use Rattle.ec20.specs.Code.{program_of}
use Rattle.ec20.specs.Devices.{Device}
use Rattle.ec20.specs.Exchange.{swapped, exchanged, exchange_for}
use Rattle.ec20.specs.File.{byte_at, first_of, count_of}
use Rattle.ec20.specs.Memory.{with_d}
use Rattle.ec20.specs.Move.{Block, Pool, move, move_for, moved_file}
use Rattle.ec20.specs.Plant.{Plant, plant}
use Rattle.ec20.specs.Registers.{word_at}
use Rattle.ec20.specs.Scan.{Scan, scan}
use Rattle.moving.specs.Rename.{rename_program}
use Rattle.moving.specs.Series.{Input, series}
use Rattle.demands.specs.Lines.{In, InBlock, Lowest, Line14, Asked}

-- each byte of a lent file is below 256
abbrev pub OfBytes : List ℕ → Type 0
OfBytes f = (i : ℕ) → byte_at f i < 256

-- the memory with the words of the block b and of the place at q exchanged, and all else as it is, the leftovers too; an answer with its memory so
abbrev pub with_exchange : Block → ℕ → Plant → Plant
with_exchange b q p = plant (with_d p.mem (exchanged b q p.mem.d)) p.rest

abbrev pub scan_exchanged : Block → ℕ → Scan → Scan
scan_exchanged b q s = scan s.answer (with_exchange b q s.plant)

-- "Exchange the two ranges in the D table": what that is, word by word, in a table d of as many words as the device has
pub record Exchanges (v : Device) (b : Block) (q : ℕ) (d : List ℤ) : Type 0 where
  -- the call does it
  pub done : exchange_for v d b q ≡ record { answer = Done; words = exchanged b q d }
  pub size : length (exchanged b q d) ≡ v.words
  pub to_place : (j : ℕ) → j < b.length → word_at (exchanged b q d) (q + j) ≡ word_at d (b.start + j)
  pub to_block : (j : ℕ) → j < b.length → word_at (exchanged b q d) (b.start + j) ≡ word_at d (q + j)
  pub others : (i : ℕ) → (InBlock b i → ⊥) → (In q b.length i → ⊥) → word_at (exchanged b q d) i ≡ word_at d i
  -- and done again it is undone
  pub twice : exchanged b q (exchanged b q d) ≡ d

-- the file f, whose block b the mover of the device put at q, and the file g that it left
pub record Same (v : Device) (f : List ℕ) (b : Block) (q : ℕ) (g : List ℕ) : Type 0 where
  -- "The moved program is the old file, byte for byte, with each D number in the block raised or lowered by the distance."
  pub bytes : g ≡ moved_file b q f
  -- so comment and trailer are as they were, and each record is the old one with its D numbers in the block exchanged for those of the place
  pub size : length g ≡ length f
  pub comment : (i : ℕ) → i < first_of f → byte_at g i ≡ byte_at f i
  pub trailer : (i : ℕ) → first_of f + 20 * count_of f ≤ i → byte_at g i ≡ byte_at f i
  pub program : program_of g ≡ rename_program (swapped b q) (program_of f)
  -- it is accepted with as many records and the same W
  pub check : check_for v g ≡ check_for v f
  pub exchanges : (d : List ℤ) → length d ≡ v.words → Exchanges v b q d
  -- "for any memory and any series of inputs, elapsed times and budgets, every scan gives the old answer and the old memory with the ranges
  -- exchanged": the inputs are given alike to both
  pub scans : (p : Plant) (is : List Input) → series v g (with_exchange b q p) is ≡ map (scan_exchanged b q) (series v f p is)

-- THE DEMAND, of every file of bytes f, block b and pool l, on a device v: the theorem is `OfBytes f → Demand3 ec20 f b l`.
pub record Demand3 (v : Device) (f : List ℕ) (b : Block) (l : Pool) : Type 0 where
  -- "The mover picks the lowest right place"
  pub picks : (q : ℕ) → ((move_for v f b l).answer ≡ To q) ↔ (Asked v f b l × Lowest v f b l q)
  -- "or says 'no place' exactly when there is none"
  pub no_place : (k : ℕ) → ((move_for v f b l).answer ≡ Refused 14 k) ↔ ((k ≡ 0) × Asked v f b l × Line14 v f b l)
  -- and of what it picks
  pub same : (q : ℕ) (g : List ℕ) → move_for v f b l ≡ move (To q) g → Same v f b q g
