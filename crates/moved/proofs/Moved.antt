-- THE MOVED FILE. If the mover answers with a place, the file that it leaves is the old program with each D number of the block renamed to the
-- number at the same distance in the place, whole extents along; and the check answers of it as of the old file.
use Prim.Native.Nat.{ℕ, ◌≤◌, ◌<◌, ◌^◌}
use mathlib.Core.List.{List}
use mathlib.Core.Path.{◌≡◌, refl, ap, subst}
use native.Mathlib.Omega.{arith}
use Rattle.ec20.specs.Moved.{Moved}
use Rattle.ec20.specs.Moved.{To}
use Rattle.ec20.specs.Check.{check_of}
use Rattle.ec20.specs.Code.{program_of}
use Rattle.ec20.specs.Devices.{Device, ec20}
use Rattle.ec20.specs.File.{byte_at}
use Rattle.ec20.specs.Move.{Block, Pool, move, move_for, move_of}
use Rattle.moved.specs.Moves.{Moves}
use Rattle.moved.proofs.Accepted.{moved-program, moved-answer}
use Rattle.moved.proofs.Exchanged.{is-swap, exchange-done}
use Rattle.moved.proofs.Program.{program-whole}
use Rattle.moved.proofs.Taken.{taken, placed}

-- Of every device whose D numbers fit four bytes: if its mover answers of the file f with the place at q and leaves the file g, then g is f with
-- its block moved to q.
pub moved-for : (v : Device) → v.words ≤ 2 ^ 32 → (f : List ℕ) → ((i : ℕ) → byte_at f i < 256) → (b : Block) (l : Pool) (q : ℕ) (g : List ℕ)
    → move_for v f b l ≡ move (To q) g
    → Moves v f b q g
unfolding program_of
moved-for v few f byte b l q g e =
    let t = taken v f b l q g e in
    let pl = placed t in
    subst (Moves v f b q) t.file
    (record {
      bytes = refl;
      answer = moved-answer v f b q byte few t.frame pl;
      program = moved-program v f b q byte few t.frame pl;
      whole = program-whole pl;
      swap = is-swap v b q pl.two;
      exchange = exchange-done t;
    })

module _ (f : List ℕ) (byte : (i : ℕ) → byte_at f i < 256) (b : Block) (l : Pool) (q : ℕ) where
  -- f is any file of bytes (each below 256, as a lent file's are), b any block, l any pool. If the EC20's mover answers with the place at q and
  -- leaves the file g, then g is f with each D number of the block changed by the distance, byte for byte; the check answers of g as of f; the
  -- program of g is the program of f renamed by the exchange of block and place; each extent of the program goes along whole; that exchange is
  -- its own inverse on the 8,000 D numbers; and the exchange of a D table of 8,000 words is granted and reads through it.
  pub moved : (g : List ℕ) → move_of f b l ≡ move (To q) g → Moves ec20 f b q g
  unfolding move_of
  moved g e = moved-for ec20 (omega arith) f byte b l q g e

  -- the same of the file that the mover leaves, by its answer alone
  pub moved_to : (move_of f b l).answer ≡ To q → Moves ec20 f b q (move_of f b l).file
  moved_to e = moved (move_of f b l).file (ap (λ (m : Moved). move m (move_of f b l).file) e)

  -- the check of an EC20 file answers as before: accepted, with as many records and the same W
  pub moved-check : (g : List ℕ) → move_of f b l ≡ move (To q) g → check_of g ≡ check_of f
  unfolding check_of
  moved-check g e = (moved g e).answer
