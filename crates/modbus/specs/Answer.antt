-- "Answer Modbus RTU requests as the public Modbus application protocol and serial line documents state."
use Rattle.std.specs.Prelude.{ℕ, ◌&&◌, List, leb, eqb, ℤ, length, Err}
use Rattle.ec20.specs.Judged.{Judged}
use Rattle.ec20.specs.Judged.{Fine, Fault}
use Rattle.ec20.specs.Basics.{pick, then}
use Rattle.modbus.specs.Answered.{Answered}
use Rattle.modbus.specs.Answered.{Silent, Reply}
use Rattle.modbus.specs.Crc.{with_crc}
use Rattle.modbus.specs.Frame.{is_heard, is_broadcast}
use Rattle.modbus.specs.Exceptions.{exception_of}
use Rattle.modbus.specs.Writes.{coils_after, registers_after}
use Rattle.modbus.specs.Replies.{reply_to, exception_to}
use Rattle.ec20.specs.Buffer.{sent}

-- the answer, and what M, D and the reply buffer hold after it
pub record Answer : Type 0 where
  pub answer : Answered
  pub m : List ℕ
  pub d : List ℤ
  pub reply : List ℕ

-- 9: "memory table of wrong size", of the two that are lent
unfoldable pub tables_fault : List ℕ → List ℤ → Judged
tables_fault m d = pick (eqb (length m) 250 && eqb (length d) 8000) Fine (Fault 9 0)

-- "An own station outside 1 to 247 or a reply buffer under 256 bytes is 16, after 9."
unfoldable pub call_fault : ℕ → List ℕ → Judged
call_fault own b = pick (leb 1 own && leb own 247 && leb 256 (length b)) Fine (Fault 16 0)

unfoldable pub judge_answer : ℕ → List ℕ → List ℤ → List ℕ → Judged
judge_answer own m d b = then (tables_fault m d) (call_fault own b)

-- nothing is sent
abbrev pub silent : List ℕ → List ℤ → List ℕ → Answer
silent m d b = record { answer = Silent; m = m; d = d; reply = b }

unfoldable pub replied : List ℕ → List ℕ → List ℤ → List ℕ → Answer
replied s m d b = record { answer = Reply (length (with_crc s)); m = m; d = d; reply = sent (with_crc s) b }

-- A frame that is heard. "a good broadcast write is done silently, any other broadcast ignored": a read changes nothing. With an exception nothing
-- is changed.
unfoldable pub heard : List ℕ → List ℕ → List ℤ → List ℕ → Answer
heard f m d b =
    let good = eqb (exception_of f) 0 in
    let m2 = coils_after f m in
    let d2 = registers_after f d in
    pick (is_broadcast f)
    (pick good (silent m2 d2 b) (silent m d b))
    (pick good (replied (reply_to f m d) m2 d2 b) (replied (exception_to f (exception_of f)) m d b))

abbrev pub answer_if : Judged → ℕ → List ℕ → List ℕ → List ℤ → List ℕ → Answer
answer_if Fine own f m d b = pick (is_heard own f) (heard f m d b) (silent m d b)
answer_if (Err r) own f m d b = record { answer = Err r; m = m; d = d; reply = b }

-- the frame f, at the station own, over M, D and the reply buffer b
unfoldable pub answer_of : ℕ → List ℕ → List ℕ → List ℤ → List ℕ → Answer
answer_of own f m d b = answer_if (judge_answer own m d b) own f m d b

-- What a host is told: the number of the refusal, whose record is always 0; "refused; silent .. ; a reply" as 0, 1 and 2; and the length of the reply.
pub record ToldAnswer : Type 0 where
  pub number : ℕ
  pub kind : ℕ
  pub length : ℕ

abbrev pub told : ℕ → ℕ → ℕ → ToldAnswer
told n k l = record { number = n; kind = k; length = l }

unfoldable pub told_by_answer : Answered → ToldAnswer
told_by_answer (Err r) = told r.number 0 0
told_by_answer Silent = told 0 1 0
told_by_answer (Reply l) = told 0 2 l
