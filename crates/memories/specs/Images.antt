-- An exchange of D words and a Modbus request over a memory file of so many bytes. One of another size than 16,892 is refused by 9, "memory table
-- of wrong size", and nothing changes. Neither looks at the leftovers: they stay as they are, and no value of them refuses.
use Rattle.std.specs.Prelude.{ℕ, List, eqb}
use Rattle.ec20.specs.Basics.{pick}
use Rattle.ec20.specs.Exchange.{exchange_of}
use Rattle.ec20.specs.Memory.{with_m, with_d}
use Rattle.ec20.specs.Move.{Block}
use Rattle.ec20.specs.Plant.{Plant, plant}
use Rattle.ec20.specs.Exchanged.{Exchanged}
use Rattle.ec20.specs.Exchanged.{Refused as NotExchanged}
use Rattle.modbus.specs.Answer.{answer_of}
use Rattle.modbus.specs.Answered.{Answered}
use Rattle.modbus.specs.Answered.{Refused}

-- the answer, and memory and leftovers after the exchange
pub record ExchangeIn : Type 0 where
  pub answer : Exchanged
  pub plant : Plant

-- a file of so many bytes, the block, the place's start, memory and leftovers
unfoldable pub exchange_in : ℕ → Block → ℕ → Plant → ExchangeIn
exchange_in size b q p =
    pick (eqb size 16892)
    (let e = exchange_of p.mem.d b q in record { answer = e.answer; plant = plant (with_d p.mem e.words) p.rest })
    (record { answer = NotExchanged 9 0; plant = p })

-- the answer, and memory, leftovers and the reply buffer after the request
pub record AnswerIn : Type 0 where
  pub answer : Answered
  pub plant : Plant
  pub reply : List ℕ

-- a file of so many bytes, the own station, the frame, memory and leftovers, the reply buffer
unfoldable pub answer_in : ℕ → ℕ → List ℕ → Plant → List ℕ → AnswerIn
answer_in size own f p b =
    pick (eqb size 16892)
    (let a = answer_of own f p.mem.m p.mem.d b in
    record { answer = a.answer; plant = plant (with_d (with_m p.mem a.m) a.d) p.rest; reply = a.reply })
    (record { answer = Refused 9 0; plant = p; reply = b })
