-- A scan of the old program and of the moved one, side by side: what came of them, when they are alike, and the inputs that both are given.
use Rattle.std.specs.Prelude.{ℕ, zero, suc, ◌+◌, ◌*◌, ◌/◌, ◌%◌, ◌<◌, List, [], ◌∷◌, ◌++◌, ◌≡◌, get_or, Err, Option, Some, None}
use Rattle.ec20.specs.Moved.{To}
use Rattle.ec20.specs.Scanned.{Scanned}
use Rattle.ec20.specs.Scanned.{Ended, Watchdog}
use Rattle.ec20.specs.Move.{Block, Pool, move, move_of}
use Rattle.turns.specs.declared.turn.Kind.TheVariants.{Refused as KindRefused, Ended as KindEnded, Watchdog as KindWatchdog}
use Rattle.turns.specs.declared.turn.Answer.{Answer}
use Rattle.turns.specs.declared.turn.Turn.{Turn}

-- The file g is the file f with its block b moved to the place at q: so the mover answered, of some pool.
pub record MovedTo (f : List ℕ) (b : Block) (q : ℕ) (g : List ℕ) : Type 0 where
  pub in_pool : Pool
  pub answered : move_of f b in_pool ≡ move (To q) g

-- A scan's answer by its kind and four numbers: ended, with "the steps, the record stopped at .., and the first error with its record"; by the watchdog, with
-- the same; refused, with number and record.
unfoldable pub answer_of : Scanned → Answer
answer_of (Ended r) = record { kind = KindEnded; steps = r.steps; stop = r.stop; error = r.error; at = r.at }
answer_of (Watchdog r) = record { kind = KindWatchdog; steps = r.steps; stop = r.stop; error = r.error; at = r.at }
answer_of (Err r) = record { kind = KindRefused; steps = r.number; stop = r.at; error = 0; at = 0 }

-- r is the first byte at which two memory files differ
pub record Apart (a b : List ℕ) (r : ℕ) : Type 0 where
  pub inside : r < 16892
  pub same : (i : ℕ) → i < r → get_or a i 0 ≡ get_or b i 0
  pub other : get_or a r 0 ≡ get_or b r 0 → ⊥

-- the first one, if they differ at any
abbrev pub FirstApart : List ℕ → List ℕ → Option ℕ → Type 0
FirstApart a b None = (i : ℕ) → i < 16892 → get_or a i 0 ≡ get_or b i 0
FirstApart a b (Some r) = Apart a b r

-- Both programs answered the same, and with block and place exchanged no byte of their memory files differs: of no table and no leftover.
pub record Alike (t : Turn) : Type 0 where
  pub answers : t.old ≡ t.new
  pub memories : t.apart ≡ None

-- ---- the inputs of a trial: from s on, s becomes (1664525 s + 1013904223) modulo 2^32, and the byte is the highest of the four of s

unfoldable pub turned_by : ℕ → ℕ
turned_by s = (s * 1664525 + 1013904223) % 4294967296

-- the state after n draws
unfoldable pub state_after : ℕ → ℕ → ℕ
state_after zero s = s
state_after (suc n) s = turned_by (state_after n s)

-- the n bytes that are drawn
unfoldable pub drawn : ℕ → ℕ → List ℕ
drawn zero s = []
drawn (suc n) s = drawn n s ++ (state_after (suc n) s / 16777216 ∷ [])
