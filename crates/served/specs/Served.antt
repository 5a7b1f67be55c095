-- What a request changes. "WORK now reads: changed by no scan and no request."
use Rattle.std.specs.Prelude.{ℕ, ◌*◌, ◌≤◌, ◌<◌, true, false, List, ◌⊎◌, ◌≡◌, eqb, ℤ, length, take, drop}
use Rattle.ec20.specs.Judged.{Fine}
use Rattle.ec20.specs.Basics.{one_if}
use Rattle.ec20.specs.Bits.{bit_at}
use Rattle.ec20.specs.File.{byte_at}
use Rattle.ec20.specs.Registers.{word_at}
use Rattle.modbus.specs.Answered.{Refused, Silent, Reply}
use Rattle.modbus.specs.Answer.{judge_answer, answer_of}
use Rattle.ec20.specs.Buffer.{sent}
use Rattle.modbus.specs.Exceptions.{value_on, bytes_of, exception_of}
use Rattle.modbus.specs.Frame.{read_coils, read_registers, write_coil, write_register, write_coils, write_registers, function_of, address_of, quantity_of, is_broadcast, is_heard}
use Rattle.modbus.specs.Replies.{coil_bytes, register_bytes}

-- a request that only reads; one that writes
abbrev pub Reads : List ℕ → Type 0
Reads f = (function_of f ≡ read_coils) ⊎ (function_of f ≡ read_registers)

abbrev pub Writes : List ℕ → Type 0
Writes f = (function_of f ≡ write_coil) ⊎ (function_of f ≡ write_register) ⊎ (function_of f ≡ write_coils) ⊎ (function_of f ≡ write_registers)

-- a good write to this station, or a good broadcast
pub record GoodWrite (own : ℕ) (f : List ℕ) : Type 0 where
  pub heard : is_heard own f ≡ true
  pub good : exception_of f ≡ 0
  pub writes : Writes f

-- no bit and no word is changed
abbrev pub Unchanged : ℕ → List ℕ → List ℕ → List ℤ → List ℕ → Type 0
Unchanged own f m d b = ((answer_of own f m d b).m ≡ m) × ((answer_of own f m d b).d ≡ d)

-- Of every frame f at the station own, over M, D and the reply buffer b.
pub record Served (own : ℕ) (f m : List ℕ) (d : List ℤ) (b : List ℕ) : Type 0 where
  -- WORK is changed by no request
  pub work : (i : ℕ) → 7900 ≤ i → i < 8000 → word_at (answer_of own f m d b).d i ≡ word_at d i
  -- a read changes nothing
  pub reads : Reads f → Unchanged own f m d b
  -- what is no good write to this station and no good broadcast changes no bit and no word
  pub only_writes : (GoodWrite own f → ⊥) → Unchanged own f m d b
  -- a refused call changes nothing, the reply buffer included; where nothing is sent, the buffer stays
  pub refused : (n k : ℕ) → (answer_of own f m d b).answer ≡ Refused n k → Unchanged own f m d b × ((answer_of own f m d b).reply ≡ b)
  pub silent : (answer_of own f m d b).answer ≡ Silent → (answer_of own f m d b).reply ≡ b
  -- the tables keep their sizes
  pub coils : length (answer_of own f m d b).m ≡ length m
  pub registers : length (answer_of own f m d b).d ≡ length d

-- a call that is not refused, and a frame that is heard and gets no exception; its bytes are bytes
pub record Good (own : ℕ) (f m : List ℕ) (d : List ℤ) (b : List ℕ) : Type 0 where
  pub call : judge_answer own m d b ≡ Fine
  pub heard : is_heard own f ≡ true
  pub good : exception_of f ≡ 0
  pub bytes : (i : ℕ) → byte_at f i < 256

-- Written registers and coils read back: what a read of them then tells, byte by byte, is what the request had.
pub record ReadBack (own : ℕ) (f m : List ℕ) (d : List ℤ) (b : List ℕ) : Type 0 where
  -- 16: the bytes from its byte 7 on
  pub registers : function_of f ≡ write_registers
      → register_bytes (answer_of own f m d b).d (address_of f) (quantity_of f) ≡ take (2 * quantity_of f) (drop 7 f)
  -- 6: its bytes 4 and 5
  pub register : function_of f ≡ write_register → register_bytes (answer_of own f m d b).d (address_of f) 1 ≡ take 2 (drop 4 f)
  -- 15: the bits from its bit 56 on, packed in the same way
  pub coils : function_of f ≡ write_coils
      → coil_bytes (answer_of own f m d b).m (address_of f) (quantity_of f) (bytes_of (quantity_of f)) ≡ coil_bytes f 56 (quantity_of f) (bytes_of (quantity_of f))
  -- 5: on or off
  pub coil : function_of f ≡ write_coil → bit_at (answer_of own f m d b).m (address_of f) ≡ one_if (eqb (quantity_of f) value_on)
  -- "5 and 6 answer the request itself", where it is no broadcast
  pub echo : is_broadcast f ≡ false → (function_of f ≡ write_coil) ⊎ (function_of f ≡ write_register)
      → ((answer_of own f m d b).answer ≡ Reply 8) × ((answer_of own f m d b).reply ≡ sent f b)
