-- The table: "1 first; then the first record that breaks 2, 3 or 4, in that order within a record; then 5 to 8. .. Each is given exactly when
-- its line holds and nothing ahead of it in this order does."
use Rattle.std.specs.Prelude.{ℕ, List}
use Rattle.ec20.specs.declared.Rec.{Rec}
use Rattle.ec20.specs.Verdict.{Verdict}
use Rattle.ec20.specs.Verdict.{Accepted, Refused}
use Rattle.ec20.specs.Devices.{Device}
use Rattle.ec20.specs.File.{count_of, records_of}
use Rattle.ec20.specs.Code.{program_of}
use Rattle.refusals.specs.First.{First, Never}
use Rattle.refusals.specs.Frame.{Line1}
use Rattle.refusals.specs.Records.{Line2, Line3, Line4, Line2to4}
use Rattle.refusals.specs.Rung.{Line5}
use Rattle.refusals.specs.Structure.{Line6}
use Rattle.refusals.specs.Labels.{Line7}
use Rattle.refusals.specs.Steps.{WOf, Line8}

-- record k of a file
abbrev pub record_at : List ℕ → ℕ → Rec
record_at f k = (records_of f).at k

-- no line before the one in question holds: not 1; no record breaks 2, 3 or 4; none 5; none 6; none 7; and where it is accepted, not 8
abbrev pub Not1 : List ℕ → Type 0
Not1 f = Line1 f → ⊥

abbrev pub Not2to4 : Device → List ℕ → Type 0
Not2to4 v f = Never (count_of f) (λ k. Line2to4 v (record_at f k))

abbrev pub Not5 : List ℕ → Type 0
Not5 f = Never (count_of f) (Line5 (program_of f))

abbrev pub Not6 : List ℕ → Type 0
Not6 f = Never (count_of f) (Line6 (program_of f))

abbrev pub Not7 : List ℕ → Type 0
Not7 f = Never (count_of f) (Line7 (program_of f))

abbrev pub Not8 : List ℕ → Type 0
Not8 f = Line8 (program_of f) → ⊥

-- "the first record that breaks 2, 3 or 4", and the first record of 5, 6, 7
abbrev pub First2to4 : Device → List ℕ → ℕ → Type 0
First2to4 v f k = First (count_of f) (λ j. Line2to4 v (record_at f j)) k

abbrev pub First5 : List ℕ → ℕ → Type 0
First5 f k = First (count_of f) (Line5 (program_of f)) k

abbrev pub First6 : List ℕ → ℕ → Type 0
First6 f k = First (count_of f) (Line6 (program_of f)) k

abbrev pub First7 : List ℕ → ℕ → Type 0
First7 f k = First (count_of f) (Line7 (program_of f)) k

-- What is told of a file: number and record; or accepted, with the count of records and W.
pub data Told (v : Device) (f : List ℕ) : Verdict → Type 0 where
  told_1 : Line1 f → Told v f (Refused 1 0)
  told_2 : {k : ℕ} → Not1 f → First2to4 v f k → Line2 (record_at f k) → Told v f (Refused 2 k)
  told_3 : {k : ℕ} → Not1 f → First2to4 v f k → (Line2 (record_at f k) → ⊥) → Line3 v (record_at f k) → Told v f (Refused 3 k)
  told_4 : {k : ℕ} → Not1 f → First2to4 v f k → (Line2 (record_at f k) → ⊥) → (Line3 v (record_at f k) → ⊥) → Line4 v (record_at f k)
      → Told v f (Refused 4 k)
  told_5 : {k : ℕ} → Not1 f → Not2to4 v f → First5 f k → Told v f (Refused 5 k)
  told_6 : {k : ℕ} → Not1 f → Not2to4 v f → Not5 f → First6 f k → Told v f (Refused 6 k)
  told_7 : {k : ℕ} → Not1 f → Not2to4 v f → Not5 f → Not6 f → First7 f k → Told v f (Refused 7 k)
  told_8 : Not1 f → Not2to4 v f → Not5 f → Not6 f → Not7 f → Line8 (program_of f) → Told v f (Refused 8 0)
  accepted : {w : ℕ} → Not1 f → Not2to4 v f → Not5 f → Not6 f → Not7 f → Not8 f → WOf (program_of f) w → Told v f (Accepted (count_of f) w)
