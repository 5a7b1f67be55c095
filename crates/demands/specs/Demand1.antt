-- DEMAND 1. "Every file, memory table, block and pool gets an answer, and every scan ends. Bad input is refused by the numbers 1 to 14 of
-- document 01 (and those that document 02 adds), in their order, each exactly when its line holds; a refusal changes no lent byte or word. Nobody upstream checks for us, so a
-- public entry has no `requires`."
use Rattle.std.specs.Prelude.{ℕ, ◌/◌, ◌≤◌, List, ◌↔◌, ◌⊎◌, ◌≡◌, ℤ, replicate}
use Rattle.ec20.specs.Exchanged.{Done, Refused as NotExchanged}
use Rattle.ec20.specs.Moved.{To, Refused as NotMoved}
use Rattle.ec20.specs.declared.Report.{Report}
use Rattle.ec20.specs.Scanned.{Scanned}
use Rattle.ec20.specs.Scanned.{Ended, Watchdog, Refused as NotScanned}
use Rattle.ec20.specs.Verdict.{Verdict}
use Rattle.ec20.specs.Verdict.{Accepted, Refused}
use Rattle.ec20.specs.Answers.{told_by_map}
use Rattle.ec20.specs.Check.{check_for}
use Rattle.ec20.specs.Code.{program_of}
use Rattle.ec20.specs.Devices.{Device, ec20}
use Rattle.ec20.specs.Exchange.{Exchange, exchanged, exchange_for}
use Rattle.ec20.specs.File.{count_of}
use Rattle.ec20.specs.Move.{Block, Pool, Move, moved_file, move_for}
use Rattle.ec20.specs.Plant.{Plant}
use Rattle.ec20.specs.Scan.{Scan, scan_for}
use Rattle.ec20.specs.UseMap.{map_for}
use Rattle.modbus.specs.Answered.{Refused as NotAnswered}
use Rattle.modbus.specs.Answer.{answer_of}
use Rattle.agreed.specs.Agreed.{Answers}
use Rattle.refusals.specs.Frame.{Line1}
use Rattle.refusals.specs.Records.{Line2, Line3, Line4}
use Rattle.refusals.specs.Steps.{WOf, Line8}
use Rattle.refusals.specs.Table.{record_at, Not1, Not2to4, Not5, Not6, Not7, Not8, First2to4, First5, First6, First7}
use Rattle.units.specs.Clash.{Declared}
use Rattle.demands.specs.Lines.{Accepts, Line9, Not9, Line10, Not10, Line11, Not11, Line12, Not12, First13, Line14, Lowest, Asked, Line9D, Line14D, Line9R, Line16}
use Rattle.demands.specs.Steps.{Counted}

-- "gets an answer": the lines hold of the result x, and of no other. That each call returns, whatever it is given, is proved of the code, where no
-- public entry has a `requires` and every function ends; where no lines fix the whole result (a map, a reply, a report), its contract's equation does.
pub record OneTold {A : Type 0} (Lines : A → Type 0) (x : A) : Type 0 where
  pub told : Lines x
  pub only : (r : A) → Lines r → r ≡ x

-- "every scan ends": at END, within the budget; or with the budget used; or it was refused
pub data Ends (b : ℕ) : Scanned → Type 0 where
  at_end : (r : Report) → r.steps ≤ b → Ends b (Ended r)
  by_budget : (r : Report) → r.steps ≡ b → Ends b (Watchdog r)
  refused : (m k : ℕ) → Ends b (NotScanned m k)

-- On a device v. The answer a to the check of the file f. "1 first; then the first record that breaks 2, 3 or 4, in that order within a record; then 5
-- to 8."
pub record CheckNumbers (v : Device) (f : List ℕ) (a : Verdict) : Type 0 where
  pub one : (k : ℕ) → (a ≡ Refused 1 k) ↔ ((k ≡ 0) × Line1 f)
  pub two : (k : ℕ) → (a ≡ Refused 2 k) ↔ (Not1 f × First2to4 v f k × Line2 (record_at f k))
  pub three : (k : ℕ) → (a ≡ Refused 3 k) ↔ (Not1 f × First2to4 v f k × (Line2 (record_at f k) → ⊥) × Line3 v (record_at f k))
  pub four : (k : ℕ)
      → (a ≡ Refused 4 k)
      ↔ (Not1 f × First2to4 v f k × (Line2 (record_at f k) → ⊥) × (Line3 v (record_at f k) → ⊥) × Line4 v (record_at f k))
  pub five : (k : ℕ) → (a ≡ Refused 5 k) ↔ (Not1 f × Not2to4 v f × First5 f k)
  pub six : (k : ℕ) → (a ≡ Refused 6 k) ↔ (Not1 f × Not2to4 v f × Not5 f × First6 f k)
  pub seven : (k : ℕ) → (a ≡ Refused 7 k) ↔ (Not1 f × Not2to4 v f × Not5 f × Not6 f × First7 f k)
  pub eight : (k : ℕ)
      → (a ≡ Refused 8 k) ↔ ((k ≡ 0) × Not1 f × Not2to4 v f × Not5 f × Not6 f × Not7 f × Line8 (program_of f))
  pub no_other : (m k : ℕ) → a ≡ Refused m k → (1 ≤ m) × (m ≤ 8)
  -- else it is accepted, with the count of its records and W
  pub accepted : (n w : ℕ)
      → (a ≡ Accepted n w)
      ↔ ((n ≡ count_of f) × WOf (program_of f) w × Not1 f × Not2to4 v f × Not5 f × Not6 f × Not7 f × Not8 f)

-- The scan s of f with e elapsed milliseconds and a budget of b on the memory and leftovers q, its answer and what it leaves: "The scan adds 9."
pub record ScanNumbers (v : Device) (f : List ℕ) (e b : ℕ) (q : Plant) (s : Scan) : Type 0 where
  pub one_to_eight : (m k : ℕ) → m ≤ 8 → (s.answer ≡ NotScanned m k) ↔ (check_for v f ≡ Refused m k)
  pub nine : (k : ℕ) → (s.answer ≡ NotScanned 9 k) ↔ ((k ≡ 0) × Accepts v f × Line9 v e q)
  pub no_other : (m k : ℕ) → s.answer ≡ NotScanned m k → (1 ≤ m) × (m ≤ 9)
  pub unchanged : (m k : ℕ) → s.answer ≡ NotScanned m k → s.plant ≡ q
  -- else it is run: so many steps of the definition (specs/Steps.antt)
  pub runs : Accepts v f → Not9 v e q → Counted v (program_of f) e b q s

-- The use map of f, to which no memory is lent: refused, it has "number and record only, every other field 0".
pub record MapNumbers (v : Device) (f : List ℕ) : Type 0 where
  pub refused : (m k : ℕ) → check_for v f ≡ Refused m k
      → told_by_map v (map_for v f) ≡ record { number = m; at = k; read = replicate (v.words / 8) 0; written = replicate (v.words / 8) 0 }
  pub accepted : Accepts v f → ((told_by_map v (map_for v f)).number ≡ 0) × ((told_by_map v (map_for v f)).at ≡ 0)

-- The answer and the file m after the move of the block b of f into the pool l: "the mover adds 10 to 14 in order".
pub record MoveNumbers (v : Device) (f : List ℕ) (b : Block) (l : Pool) (m : Move) : Type 0 where
  pub one_to_eight : (n k : ℕ) → n ≤ 8 → (m.answer ≡ NotMoved n k) ↔ (check_for v f ≡ Refused n k)
  pub ten : (k : ℕ) → (m.answer ≡ NotMoved 10 k) ↔ ((k ≡ 0) × Accepts v f × Line10 v b)
  pub eleven : (k : ℕ) → (m.answer ≡ NotMoved 11 k) ↔ ((k ≡ 0) × Accepts v f × Not10 v b × Line11 v l)
  pub twelve : (k : ℕ) → (m.answer ≡ NotMoved 12 k) ↔ ((k ≡ 0) × Accepts v f × Not10 v b × Not11 v l × Line12 v b)
  pub thirteen : (k : ℕ) → (m.answer ≡ NotMoved 13 k) ↔ (Accepts v f × Not10 v b × Not11 v l × Not12 v b × First13 f b k)
  pub fourteen : (k : ℕ) → (m.answer ≡ NotMoved 14 k) ↔ ((k ≡ 0) × Asked v f b l × Line14 v f b l)
  -- else the lowest right place is told, and the file is moved there
  pub place : (q : ℕ) → (m.answer ≡ To q) ↔ (Asked v f b l × Lowest v f b l q)
  pub moved : (q : ℕ) → m.answer ≡ To q → m.file ≡ moved_file b q f
  pub no_other : (n k : ℕ) → m.answer ≡ NotMoved n k → (1 ≤ n) × ((n ≤ 8) ⊎ ((10 ≤ n) × (n ≤ 14)))
  pub unchanged : (n k : ℕ) → m.answer ≡ NotMoved n k → m.file ≡ f

-- The answer and the table x after the exchange of the block b and the place at q in the D table d: it "refuses by 9, 10 and 12 and .. by 14".
pub record ExchangeNumbers (v : Device) (d : List ℤ) (b : Block) (q : ℕ) (x : Exchange) : Type 0 where
  pub nine : (k : ℕ) → (x.answer ≡ NotExchanged 9 k) ↔ ((k ≡ 0) × Line9D v d)
  pub ten : (k : ℕ) → (x.answer ≡ NotExchanged 10 k) ↔ ((k ≡ 0) × (Line9D v d → ⊥) × Line10 v b)
  pub twelve : (k : ℕ) → (x.answer ≡ NotExchanged 12 k) ↔ ((k ≡ 0) × (Line9D v d → ⊥) × Not10 v b × Line12 v b)
  pub fourteen : (k : ℕ)
      → (x.answer ≡ NotExchanged 14 k) ↔ ((k ≡ 0) × (Line9D v d → ⊥) × Not10 v b × Not12 v b × Line14D v b q)
  -- else it is done
  pub done : (x.answer ≡ Done) ↔ ((Line9D v d → ⊥) × Not10 v b × Not12 v b × (Line14D v b q → ⊥))
  pub exchanges : x.answer ≡ Done → x.words ≡ exchanged b q d
  pub no_other : (m k : ℕ) → x.answer ≡ NotExchanged m k → (m ≡ 9) ⊎ (m ≡ 10) ⊎ (m ≡ 12) ⊎ (m ≡ 14)
  pub unchanged : (m k : ℕ) → x.answer ≡ NotExchanged m k → x.words ≡ d

-- The answer to the frame f at the station own, over M, D and the reply buffer b: "is 16, after 9".
pub record AnswerNumbers (own : ℕ) (f m : List ℕ) (d : List ℤ) (b : List ℕ) : Type 0 where
  pub nine : (k : ℕ) → ((answer_of own f m d b).answer ≡ NotAnswered 9 k) ↔ ((k ≡ 0) × Line9R ec20 m d)
  pub sixteen : (k : ℕ) → ((answer_of own f m d b).answer ≡ NotAnswered 16 k) ↔ ((k ≡ 0) × (Line9R ec20 m d → ⊥) × Line16 own b)
  pub no_other : (n k : ℕ) → (answer_of own f m d b).answer ≡ NotAnswered n k → (n ≡ 9) ⊎ (n ≡ 16)
  pub unchanged : (n k : ℕ) → (answer_of own f m d b).answer ≡ NotAnswered n k
      → ((answer_of own f m d b).m ≡ m) × ((answer_of own f m d b).d ≡ d) × ((answer_of own f m d b).reply ≡ b)

-- THE DEMAND, of every input: nothing is asked of it. On the EC20: `check_of f` is `check_for ec20 f`, and so it is with the others; the entry that takes
-- no budget is a scan with one of 200,000 (specs/Budget.antt).
pub record Demand1 : Type 0 where
  -- "every scan ends"
  pub ends : (f : List ℕ) (e b : ℕ) (q : Plant) → Ends b (scan_for ec20 f e b q).answer
  -- "Every file, memory table, block and pool gets an answer". "Bad input is refused by the numbers 1 to 14 of document 01 (and those that document 02
  -- adds), in their order, each exactly when its line holds; a refusal changes no lent byte or word"
  pub check_numbers : (f : List ℕ) → OneTold (CheckNumbers ec20 f) (check_for ec20 f)
  pub scan_numbers : (f : List ℕ) (e b : ℕ) (q : Plant) → OneTold (ScanNumbers ec20 f e b q) (scan_for ec20 f e b q)
  pub map_numbers : (f : List ℕ) → MapNumbers ec20 f
  pub move_numbers : (f : List ℕ) (b : Block) (l : Pool) → OneTold (MoveNumbers ec20 f b l) (move_for ec20 f b l)
  pub exchange_numbers : (d : List ℤ) (b : Block) (q : ℕ) → OneTold (ExchangeNumbers ec20 d b q) (exchange_for ec20 d b q)
  pub answer_numbers : (own : ℕ) (f m : List ℕ) (d : List ℤ) (b : List ℕ) → AnswerNumbers own f m d b
  -- of a list of declarations 10, then 16: `Answers` of the crate agreed
  pub clashes_numbers : (v : Declared) (b : List (List ℕ)) → Answers v b
