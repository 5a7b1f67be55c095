-- "Numbers of refusal", 9 to 14, and 9 and 16 of a request, line by line, of a device. The lines 1 to 8 are in the crate refusals.
use Rattle.std.specs.Prelude.{ℕ, ◌+◌, ◌-◌, ◌/◌, ◌≤◌, ◌<◌, true, List, ◌≡◌, ℤ, length}
use Rattle.ec20.specs.declared.Operand.{Operand}
use Rattle.ec20.specs.declared.Place.{Place}
use Rattle.ec20.specs.Verdict.{Accepted}
use Rattle.ec20.specs.Check.{check_for}
use Rattle.ec20.specs.Devices.{Device}
use Rattle.ec20.specs.File.{count_of}
use Rattle.ec20.specs.Move.{Block, Pool}
use Rattle.ec20.specs.Operands.{in_d, start_of, extent_of}
use Rattle.ec20.specs.Plant.{Plant, leftover_of}
use Rattle.refusals.specs.First.{First, Never}
use Rattle.refusals.specs.Records.{OperandAt}
use Rattle.refusals.specs.Table.{record_at}

-- word i is one of the n from a on
pub record In (a n i : ℕ) : Type 0 where
  pub from : a ≤ i
  pub to : i < a + n

-- word i is in WORK: "WORK is D7900 to D7999"
abbrev pub Work : Device → ℕ → Type 0
Work v i = In v.work (v.words - v.work) i

-- word i is one of the block's
abbrev pub InBlock : Block → ℕ → Type 0
InBlock b i = In b.start b.length i

-- word i is one of the extent of the operand o, which has words in D, at the place p of the table
pub record Extent (p : Place) (o : Operand) (i : ℕ) : Type 0 where
  pub in_D : in_d o ≡ true
  pub words : In (start_of o) (extent_of p o) i

-- nothing of 1 to 8: the file is accepted
abbrev pub Accepts : Device → List ℕ → Type 0
Accepts v f = (n w : ℕ) × (check_for v f ≡ Accepted n w)

-- ---- the scan

-- 9: "memory table of wrong size, or elapsed out of range": of each kind as many as the device has, bits packed eight to a byte. Document 02, (iv):
-- "A scan is now given elapsed milliseconds, 0 to 10,000, else refusal 9. The memory gains two leftovers, 0 to 9 ms and 0 to 99 ms, carried from scan
-- to scan; a table with others is 9."
pub data Line9 (v : Device) (e : ℕ) (q : Plant) : Type 0 where
  size_x : (length q.mem.x ≡ v.x / 8 → ⊥) → Line9 v e q
  size_y : (length q.mem.y ≡ v.y / 8 → ⊥) → Line9 v e q
  size_m : (length q.mem.m ≡ v.m / 8 → ⊥) → Line9 v e q
  size_sm : (length q.mem.sm ≡ v.sm / 8 → ⊥) → Line9 v e q
  size_t : (length q.mem.t ≡ v.t / 8 → ⊥) → Line9 v e q
  size_d : (length q.mem.d ≡ v.words → ⊥) → Line9 v e q
  size_tv : (length q.mem.tv ≡ v.t → ⊥) → Line9 v e q
  size_rest : (length q.rest ≡ 2 → ⊥) → Line9 v e q
  tens : 9 < leftover_of 10 q.rest → Line9 v e q
  hundreds : 99 < leftover_of 100 q.rest → Line9 v e q
  elapsed : 10000 < e → Line9 v e q

abbrev pub Not9 : Device → ℕ → Plant → Type 0
Not9 v e q = Line9 v e q → ⊥

-- ---- the move

-- 10: "block empty or not inside D"
pub data Line10 (v : Device) (b : Block) : Type 0 where
  empty : b.length ≡ 0 → Line10 v b
  outside : v.words < b.start + b.length → Line10 v b

abbrev pub Not10 : Device → Block → Type 0
Not10 v b = Line10 v b → ⊥

-- 11: "pool start above its end, or end above 8000"
pub data Line11 (v : Device) (l : Pool) : Type 0 where
  start_above : l.end < l.start → Line11 v l
  end_above : v.words < l.end → Line11 v l

abbrev pub Not11 : Device → Pool → Type 0
Not11 v l = Line11 v l → ⊥

-- 12: "block meets WORK": they have a word in common
pub data Line12 (v : Device) (b : Block) : Type 0 where
  in_work : (i : ℕ) → InBlock b i → Work v i → Line12 v b

abbrev pub Not12 : Device → Block → Type 0
Not12 v b = Line12 v b → ⊥

-- the operand's extent is partly in the block: one of its words is in it, and one is not
pub record Partly (b : Block) (p : Place) (o : Operand) : Type 0 where
  pub one : ℕ
  pub one_of : Extent p o one
  pub one_in : InBlock b one
  pub other : ℕ
  pub other_of : Extent p o other
  pub other_out : InBlock b other → ⊥

-- 13: "an operand's extent is partly in the block", of record k
pub data Line13 (f : List ℕ) (b : Block) (k : ℕ) : Type 0 where
  partly : {p : Place} {o : Operand} → OperandAt (record_at f k) p o → Partly b p o → Line13 f b k

abbrev pub First13 : List ℕ → Block → ℕ → Type 0
First13 f b k = First (count_of f) (Line13 f b) k

abbrev pub Not13 : List ℕ → Block → Type 0
Not13 f b = Never (count_of f) (Line13 f b)

-- The start q is right. "The place, as long as the block, lies whole in the pool, meets neither block nor WORK, and no operand's extent
-- meets it": no word of the place is one of theirs.
pub record Right (v : Device) (f : List ℕ) (b : Block) (l : Pool) (q : ℕ) : Type 0 where
  pub from : l.start ≤ q
  pub to : q + b.length ≤ l.end
  pub off_block : (i : ℕ) → In q b.length i → InBlock b i → ⊥
  pub off_work : (i : ℕ) → In q b.length i → Work v i → ⊥
  pub unused : (k : ℕ) → k < count_of f → (p : Place) (o : Operand) → OperandAt (record_at f k) p o
      → (i : ℕ) → In q b.length i → Extent p o i → ⊥

-- "the lowest such"
pub record Lowest (v : Device) (f : List ℕ) (b : Block) (l : Pool) (q : ℕ) : Type 0 where
  pub right : Right v f b l q
  pub none_lower : (j : ℕ) → j < q → Right v f b l j → ⊥

-- 14: "no place": no start is right
abbrev pub Line14 : Device → List ℕ → Block → Pool → Type 0
Line14 v f b l = (q : ℕ) → Right v f b l q → ⊥

-- nothing ahead of 14: the file is accepted, and none of 10 to 13 holds
pub record Asked (v : Device) (f : List ℕ) (b : Block) (l : Pool) : Type 0 where
  pub accepts : Accepts v f
  pub not_10 : Not10 v b
  pub not_11 : Not11 v l
  pub not_12 : Not12 v b
  pub not_13 : Not13 f b

-- ---- the exchange

-- 9: "memory table of wrong size"
abbrev pub Line9D : Device → List ℤ → Type 0
Line9D v d = length d ≡ v.words → ⊥

-- 14: "if the place is not inside D, meets the block or meets WORK"
pub data Line14D (v : Device) (b : Block) (q : ℕ) : Type 0 where
  outside : v.words < q + b.length → Line14D v b q
  in_block : (i : ℕ) → In q b.length i → InBlock b i → Line14D v b q
  in_work : (i : ℕ) → In q b.length i → Work v i → Line14D v b q

-- ---- the answer to a Modbus frame

-- 9: "memory table of wrong size", of the two that are lent
pub data Line9R (v : Device) (m : List ℕ) (d : List ℤ) : Type 0 where
  size_m : (length m ≡ v.m / 8 → ⊥) → Line9R v m d
  size_d : (length d ≡ v.words → ⊥) → Line9R v m d

-- 16: "An own station outside 1 to 247 or a reply buffer under 256 bytes is 16, after 9."
pub data Line16 (own : ℕ) (b : List ℕ) : Type 0 where
  below : own < 1 → Line16 own b
  above : 247 < own → Line16 own b
  buffer : length b < 256 → Line16 own b
