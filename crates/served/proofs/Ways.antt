-- The ways that an answer can go. Assumes nothing.
use Prim.Native.Nat.{ℕ}
use mathlib.Core.Bool.{true}
use mathlib.Core.List.{List}
use mathlib.Core.Path.{◌≡◌}
use lib.Dec.{eqb}
use lib.IntN.{ℤ}
use Rattle.std.specs.Prelude.{Err}
use Rattle.ec20.proofs.Tests.{picked}
use Rattle.ec20.specs.Judged.{Judged}
use Rattle.ec20.specs.Judged.{Fine}
use Rattle.modbus.specs.Answered.{Answered}
use Rattle.modbus.specs.Answered.{Refused, Silent, Reply}
use Rattle.modbus.specs.Answer.{Answer, judge_answer, silent, replied, heard, answer_if, answer_of}
use Rattle.modbus.specs.Exceptions.{exception_of}
use Rattle.modbus.specs.Frame.{is_heard, is_broadcast}
use Rattle.modbus.specs.Replies.{reply_to, exception_to}
use Rattle.modbus.specs.Writes.{coils_after, registers_after}
use borrow.Author.Tests.{eqb-true}

-- What holds of every answer that is no refusal holds of the answer to a call that has no fault.
pub not-refused : (P : Answered → Type 0) (own : ℕ) (f m : List ℕ) (d : List ℤ) (b : List ℕ) → P Silent → ((l : ℕ) → P (Reply l))
    → P (answer_if Fine own f m d b).answer
unfolding heard replied
not-refused P own f m d b quiet reply =
    picked (λ (a : Answer). P a.answer) (is_heard own f) (heard f m d b) (silent m d b)
    (λ _.
    picked (λ (a : Answer). P a.answer) (is_broadcast f) _ _
    (λ _. picked (λ (a : Answer). P a.answer) (eqb (exception_of f) 0) _ _ (λ _. quiet) (λ _. quiet))
    (λ _. picked (λ (a : Answer). P a.answer) (eqb (exception_of f) 0) _ _ (λ _. reply _) (λ _. reply _)))
    (λ _. quiet)

-- What holds of a refusal, of silence that changes nothing, of a good broadcast, of a good request's reply and of an exception's holds of the answer.
pub ways : (P : Answer → Type 0) (own : ℕ) (f m : List ℕ) (d : List ℤ) (b : List ℕ)
    → ((n k : ℕ) → P (record { answer = Refused n k; m = m; d = d; reply = b }))
    → P (silent m d b)
    → (is_heard own f ≡ true → exception_of f ≡ 0 → P (silent (coils_after f m) (registers_after f d) b))
    → (is_heard own f ≡ true → exception_of f ≡ 0 → P (replied (reply_to f m d) (coils_after f m) (registers_after f d) b))
    → P (replied (exception_to f (exception_of f)) m d b)
    → P (answer_of own f m d b)
unfolding answer_of heard
ways P own f m d b turned quiet done reply exception = go (judge_answer own m d b)
  where
    go : (j : Judged) → P (answer_if j own f m d b)
    go (Err r) = turned r.number r.at
    go Fine =
        picked P (is_heard own f) (heard f m d b) (silent m d b)
        (λ h.
        picked P (is_broadcast f) _ _
        (λ _. picked P (eqb (exception_of f) 0) _ _ (λ e. done h (eqb-true _ _ e)) (λ _. quiet))
        (λ _. picked P (eqb (exception_of f) 0) _ _ (λ e. reply h (eqb-true _ _ e)) (λ _. exception)))
        (λ _. quiet)
