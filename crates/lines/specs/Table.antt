-- The table: "the mover adds 10 to 14 in order. Each is given exactly when its line holds and nothing ahead of it in this order does."
use Rattle.std.specs.Prelude.{ℕ, ◌≤◌, List, ◌≡◌}
use Rattle.ec20.specs.Check.{check_for}
use Rattle.ec20.specs.Devices.{Device}
use Rattle.ec20.specs.File.{count_of, records_of}
use Rattle.ec20.specs.Move.{Block, Pool}
use Rattle.ec20.specs.Moved.{Moved}
use Rattle.ec20.specs.Moved.{To, Refused}
use Rattle.ec20.specs.Verdict.{Accepted, Refused as Unfit}
use Rattle.lines.specs.Lines.{Line10, Line11, Line12, Line13}
use Rattle.places.specs.Right.{Right}
use Rattle.refusals.specs.First.{First, Never}
use Rattle.refusals.specs.Table.{record_at}

-- none of 1 to 8
pub record Passes (v : Device) (f : List ℕ) : Type 0 where
  pub records : ℕ
  pub steps : ℕ
  pub accepted : check_for v f ≡ Accepted records steps

abbrev pub Not10 : Device → Block → Type 0
Not10 v b = Line10 v b → ⊥

abbrev pub Not11 : Device → Pool → Type 0
Not11 v l = Line11 v l → ⊥

abbrev pub Not12 : Device → Block → Type 0
Not12 v b = Line12 v b → ⊥

abbrev pub Not13 : List ℕ → Block → Type 0
Not13 f b = Never (count_of f) (λ k. Line13 b (record_at f k))

-- "the first record" with an extent partly in the block
abbrev pub First13 : List ℕ → Block → ℕ → Type 0
First13 f b k = First (count_of f) (λ j. Line13 b (record_at f j)) k

-- What is told: number and record; or the start of the place, the lowest that is right.
pub data Told (v : Device) (f : List ℕ) (b : Block) (l : Pool) : Moved → Type 0 where
  told_1_8 : {m k : ℕ} → check_for v f ≡ Unfit m k → Told v f b l (Refused m k)
  told_10 : Passes v f → Line10 v b → Told v f b l (Refused 10 0)
  told_11 : Passes v f → Not10 v b → Line11 v l → Told v f b l (Refused 11 0)
  told_12 : Passes v f → Not10 v b → Not11 v l → Line12 v b → Told v f b l (Refused 12 0)
  told_13 : {k : ℕ} → Passes v f → Not10 v b → Not11 v l → Not12 v b → First13 f b k → Told v f b l (Refused 13 k)
  told_14 : Passes v f → Not10 v b → Not11 v l → Not12 v b → Not13 f b → ((q : ℕ) → Right v (records_of f) b l q → ⊥) → Told v f b l (Refused 14 0)
  moved : {q : ℕ} → Passes v f → Not10 v b → Not11 v l → Not12 v b → Not13 f b → Right v (records_of f) b l q
      → ((p : ℕ) → Right v (records_of f) b l p → q ≤ p)
      → Told v f b l (To q)
