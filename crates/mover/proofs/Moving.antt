-- The move by its cases: refused by the check, by 10 to 13, by 14, or done. Assumes nothing.
use Prim.Native.Nat.{ℕ}
use mathlib.Core.List.{List}
use mathlib.Core.Path.{◌≡◌, refl, sym, ap, ◌∙◌}
use lib.ListN.{length}
use Rattle.std.specs.Prelude.{Result, Err}
use Rattle.checker.proofs.Accepted.{Taken, not_taken}
use Rattle.checker.specs.Accepted.{accepted_of}
use Rattle.ec20.specs.Basics.{list}
use Rattle.ec20.specs.Check.{check_of}
use Rattle.ec20.specs.Devices.{ec20}
use Rattle.ec20.specs.File.{Records, records_from, records_of}
use Rattle.ec20.specs.Found.{At, Nowhere}
use Rattle.ec20.specs.Judged.{Judged, Fine}
use Rattle.ec20.specs.Move.{Block, Pool, move, moved_byte, moved_file, judge_move, place_of, move_if, move_for, move_of}
use Rattle.ec20.specs.Moved.{To, Refused}
use Rattle.ec20.specs.declared.Frame.{Frame}
use Rattle.ec20.specs.declared.Refusal.{Refusal}

-- the records of an accepted file are its own
pub own : (f : List ℕ) {w : Frame} → Taken f w → records_from f w.first w.count ≡ records_of f
own f t = rw (t.first, t.count) refl

module _ (f : List ℕ) (b : Block) (l : Pool) where
  -- 1 to 8
  pub unfit : {d : Refusal} → ◌≡◌ {A = Result Frame Refusal} (Err d) (accepted_of f) → move (Err d) f ≡ move_of f b l
  unfolding move_of move_for check_of
  unfit e = rw (sym (not_taken f e)) refl

  -- or the rest
  module _ {w : Frame} (t : Taken f w) where
    abbrev pub rs : Records
    rs = records_from f w.first w.count

    by : move_of f b l ≡ move_if (judge_move ec20 rs b l) (place_of ec20 rs b l) f b
    unfolding move_of move_for check_of
    by = rw (t.verdict, own f t) refl

    -- 10 to 13
    pub judged : {d : Refusal} → ◌≡◌ {A = Judged} (Err d) (judge_move ec20 rs b l) → move (Err d) f ≡ move_of f b l
    judged e = rw (by, sym e) refl

    -- 14
    pub no_place : Fine ≡ judge_move ec20 rs b l → Nowhere ≡ place_of ec20 rs b l → move (Refused 14 0) f ≡ move_of f b l
    no_place e h = rw (by, sym e, sym h) refl

    -- moved
    pub moved_to : {q : ℕ} {g : List ℕ} → Fine ≡ judge_move ec20 rs b l → At q ≡ place_of ec20 rs b l
        → g ≡ list (length f) (moved_byte b q f w.first w.count) → move (To q) g ≡ move_of f b l
    unfolding moved_file
    moved_to {q} e h m = rw (by, sym e, sym h) (ap (move (To q)) (m ∙ rw (t.first, t.count) refl))
