-- The place of an accepted move is a number of a D word. Assumes nothing.
use Rattle.std.proofs.Common.{◌≡◌, ℕ, ◌<◌, ◌≤◌, List, sym, ap, ◌∙◌, arith}
use Rattle.demands.proofs.Lines.{some_word}
use Rattle.demands.proofs.MoveAnswers.{move_numbers}
use Rattle.demands.proofs.Places.{pool_end}
use Rattle.ec20.specs.Moved.{Moved}
use Rattle.ec20.specs.Moved.{To}
use Rattle.ec20.specs.Devices.{ec20}
use Rattle.ec20.specs.Move.{Block, Pool, Move, move, move_of}
use Rattle.turns.specs.Turns.{MovedTo}

pub place-below : (f g : List ℕ) (b : Block) (l : Pool) (q : ℕ) → move_of f b l ≡ move (To q) g → q < 8000
unfolding move_of
place-below f g b l q e =
    let p = ((move_numbers ec20 f b l).place q).0 (ap (λ (m : Move). m.answer) e) in
    let some : 0 < b.length = some_word ec20 b p.0.not_10 in
    let last : l.end ≤ 8000 = pool_end ec20 l p.0.not_11 in
    omega (arith, p.1.right.to, some, last)

-- a copy of the file, moved; the place as a number of four bytes
pub moved-copy : {old new new' : List ℕ} {r : Moved} (b : Block) (l : Pool) (q w : ℕ) → move r new' ≡ move_of new b l → new ≡ old → r ≡ To q
    → (q < 8000 → w ≡ q) → MovedTo old b w new'
moved-copy {old} {new} {new'} {r} b l q w m same is at =
    let e : move_of old b l ≡ move (To q) new' = ap (λ (f : List ℕ). move_of f b l) (sym same) ∙ sym m ∙ ap (λ (a : Moved). move a new') is in
    record { in_pool = l; answered = e ∙ ap (λ (k : ℕ). move (To k) new') (sym (at (place-below old new' b l q e))) }
