-- Whether an answer is the one that a case wants, and which count it is of.
use Rattle.std.specs.Prelude.{ℕ, ◌+◌, Bool, ◌&&◌, ◌||◌, List, ltb, eqb, length, Err}
use Rattle.ec20.specs.Basics.{pick}
use Rattle.ec20.specs.File.{byte_at}
use Rattle.modbus.specs.Answered.{Answered}
use Rattle.modbus.specs.Answered.{Silent, Reply}
use Rattle.vectors_requests.specs.declared.judge.Wanted.{Wanted}

-- the kind is 0 for refused, 1 for silent, 2 for a reply; the number is that of the refusal, or 0. The record told is always 0.
abbrev pub wants : Wanted → Answered → Bool
wants w (Err r) = eqb w.kind 0 && eqb w.number r.number && eqb r.at 0
wants w Silent = eqb w.kind 1 && eqb w.number 0
wants w (Reply n) = eqb w.kind 2 && eqb w.number 0 && eqb w.length n

-- the count of an exception of this code, 27 to 29; of any other reply 19
abbrev pub exception_count : ℕ → ℕ → ℕ
exception_count function code = pick (ltb function 128 || ltb code 1 || ltb 3 code) 19 (26 + code)

-- the count of a reply that begins so
unfoldable pub reply_count : ℕ → ℕ → ℕ
reply_count function code =
    pick (eqb function 1) 20
    (pick (eqb function 3) 21
    (pick (eqb function 5) 22
    (pick (eqb function 6) 23
    (pick (eqb function 15) 24
    (pick (eqb function 16) 25 (exception_count function code))))))

-- the count of an answer, whose reply stands in b
abbrev pub count_of : Answered → List ℕ → ℕ
count_of (Err r) b = r.number
count_of Silent b = 0
count_of (Reply n) b = pick (ltb (length b) 3) 19 (reply_count (byte_at b 1) (byte_at b 2))
