-- The rung rule, sentence by sentence, by the numbers of the instructions. 5 is stated by it; that the check computes it: proofs/Keeps.antt.
use Rattle.std.specs.Prelude.{ℕ, ◌+◌, ◌-◌, ◌<◌, ◌≤◌, true, false, ◌≡◌}
use Rattle.ec20.specs.declared.Instr.{Instr}
use Rattle.ec20.specs.declared.Instr.TheVariants.{Nop, Contact, Compare, Join, Branch, Coil, Timer, For, Next, Jump, Label, End, Word}
use Rattle.ec20.specs.declared.Rung.{Rung}
use Rattle.ec20.specs.Mnemonics.{NOP, LD, LDI, ANB, ORB, MPS, MRD, MPP, LD=, LD<, TON, FOR, NEXT, CJ, LBL, END}

-- an instruction's number in the table
abbrev pub number_of : Instr → ℕ
number_of Nop = NOP
number_of (Contact n o) = n
number_of (Compare n a b) = n
number_of (Join n) = n
number_of (Branch n) = n
number_of (Coil n o) = n
number_of (Timer i c) = TON
number_of (For c) = FOR
number_of Next = NEXT
number_of (Jump l) = CJ
number_of (Label l) = LBL
number_of End = END
number_of (Word n a b t) = n

-- "LDType instructions": LD, LDI and LD=, LD>, LD<
pub data LDType (n : ℕ) : Type 0 where
  of_a_bit : LD ≤ n → n ≤ LDI → LDType n
  of_a_comparison : LD= ≤ n → n ≤ LD< → LDType n

-- "an action (12 to 14, 18, 32 and up)"
pub data Action (n : ℕ) : Type 0 where
  from_12_to_14 : 12 ≤ n → n ≤ 14 → Action n
  is_18 : n ≡ 18 → Action n
  from_32 : 32 ≤ n → Action n

-- "NOP, LD-types, FOR, NEXT, LBL and END"
pub data Flowless (n : ℕ) : Type 0 where
  is_NOP : n ≡ NOP → Flowless n
  is_LD : LDType n → Flowless n
  is_FOR : n ≡ FOR → Flowless n
  is_NEXT : n ≡ NEXT → Flowless n
  is_LBL : n ≡ LBL → Flowless n
  is_END : n ≡ END → Flowless n

-- "actions, MPS, MRD and MPP"
pub data Blockless (n : ℕ) : Type 0 where
  acts : Action n → Blockless n
  is_MPS : n ≡ MPS → Blockless n
  is_MRD : n ≡ MRD → Blockless n
  is_MPP : n ≡ MPP → Blockless n

-- LDType instructions "start a rung if flow is absent or the last instruction other than NOP was an action"
pub data Starts (s : Rung) : Type 0 where
  absent : s.present ≡ false → Starts s
  after_an_action : s.action ≡ true → Starts s

pub record BothEmpty (s : Rung) : Type 0 where
  pub blocks : s.blocks ≡ 0
  pub branches : s.branches ≡ 0

-- The instruction n keeps the rule where flow and stacks are s. "Block stack and branch stack hold 8 each"
pub record Keeps (n : ℕ) (s : Rung) : Type 0 where
  -- "everything but NOP, LD-types, FOR, NEXT, LBL and END needs flow": "to need flow is to need it not absent"
  pub flow : (Flowless n → ⊥) → s.present ≡ true
  -- "A starting LD, and 19 to 23, need both stacks empty"
  pub starting : LDType n → Starts s → BothEmpty s
  pub control : 19 ≤ n → n ≤ 23 → BothEmpty s
  -- "actions, MPS, MRD and MPP need the block stack empty"
  pub blockless : Blockless n → s.blocks ≡ 0
  -- "No stack over- or underflows": an LD that does not start pushes on the block stack, "ANB and ORB pop it"; MPS pushes on the branch
  -- stack, MPP pops it
  pub block_room : LDType n → (Starts s → ⊥) → s.blocks < 8
  pub block_there : ANB ≤ n → n ≤ ORB → 0 < s.blocks
  pub branch_room : n ≡ MPS → s.branches < 8
  pub branch_there : n ≡ MPP → 0 < s.branches
  -- "MRD needs an entry."
  pub entry : n ≡ MRD → 0 < s.branches

-- After the instruction n flow and stacks, which were s, are t.
pub record Goes_on (n : ℕ) (s t : Rung) : Type 0 where
  -- an LD makes flow; "After 19 to 23 flow is absent."
  pub made : LDType n → t.present ≡ true
  pub gone : 19 ≤ n → n ≤ 23 → t.present ≡ false
  pub as_before : (LDType n → ⊥) → (19 ≤ n → n ≤ 23 → ⊥) → t.present ≡ s.present
  -- "the last instruction other than NOP was an action"
  pub action : Action n → t.action ≡ true
  pub no_action : (Action n → ⊥) → (n ≡ NOP → ⊥) → t.action ≡ false
  pub passed_over : n ≡ NOP → t.action ≡ s.action
  -- LDType instructions start, "else they push the flow on the block stack. ANB and ORB pop it"
  pub starts : LDType n → Starts s → t.blocks ≡ s.blocks
  pub pushes : LDType n → (Starts s → ⊥) → t.blocks ≡ s.blocks + 1
  pub pops : ANB ≤ n → n ≤ ORB → t.blocks ≡ s.blocks - 1
  pub same_blocks : (LDType n → ⊥) → (ANB ≤ n → n ≤ ORB → ⊥) → t.blocks ≡ s.blocks
  -- "MPS pushes a copy of the flow on the branch stack, MRD reads the top, MPP pops it."
  pub branches_off : n ≡ MPS → t.branches ≡ s.branches + 1
  pub returns : n ≡ MPP → t.branches ≡ s.branches - 1
  pub same_branches : (n ≡ MPS → ⊥) → (n ≡ MPP → ⊥) → t.branches ≡ s.branches
