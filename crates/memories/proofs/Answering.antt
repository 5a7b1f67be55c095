-- A Modbus request over a memory file, from what its calls give. Assumes nothing.
use Prim.Native.Nat.{ℕ}
use mathlib.Core.Bool.{Bool, true, false}
use mathlib.Core.List.{List}
use mathlib.Core.Path.{◌≡◌, refl, sym, ap, ap₂, ◌∙◌}
use lib.Dec.{eqb}
use lib.IntN.{ℤ}
use Rattle.ec20.specs.Basics.{pick}
use Rattle.ec20.specs.Memory.{memory, with_m, with_d}
use Rattle.ec20.specs.Plant.{Plant, plant}
use Rattle.image.specs.Image.{plant_of, image_of}
use Rattle.memories.proofs.After.{tables_after, bytes_after, no_byte}
use Rattle.memories.specs.Images.{AnswerIn, answer_in}
use Rattle.modbus.specs.Answer.{Answer, answer_of}
use Rattle.modbus.specs.Answered.{Answered}
use Rattle.modbus.specs.Answered.{Refused}
use Rattle.served.proofs.Theorem.{served}

abbrev told : Answered → List ℕ → List ℤ → List ℕ → Answer
told a m d b = record { answer = a; m = m; d = d; reply = b }

-- the memory with M and D as the request leaves them, and the same leftovers
abbrev over : Plant → Answer → AnswerIn
over p a = record { answer = a.answer; plant = plant (with_d (with_m p.mem a.m) a.d) p.rest; reply = a.reply }

module _ (own : ℕ) (f : List ℕ) (p : Plant) (b : List ℕ) where
  abbrev done : AnswerIn
  done = over p (answer_of own f p.mem.m p.mem.d b)

  abbrev unsized : AnswerIn
  unsized = record { answer = Refused 9 0; plant = p; reply = b }

  in-plant : (t : Bool) {a : Answer} → a ≡ pick t (answer_of own f p.mem.m p.mem.d b) (told (Refused 9 0) p.mem.m p.mem.d b)
      → over p a ≡ pick t done unsized
  in-plant true h = ap (over p) h
  in-plant false h = ap (over p) h

  keeps : (t : Bool) (m k : ℕ) → (pick t done unsized).answer ≡ Refused m k → (pick t done unsized).plant ≡ p
  keeps true m k h =
      let u = ((served own f p.mem.m p.mem.d b).refused m k h).0 in
      ap₂ (λ (x : List ℕ) (y : List ℤ). plant (with_d (with_m p.mem x) y) p.rest) u.0 u.1
  keeps false m k h = refl

  pub refused_keeps : (size m k : ℕ) → (answer_in size own f p b).answer ≡ Refused m k → (answer_in size own f p b).plant ≡ p
  unfolding answer_in
  refused_keeps size m k h = keeps (eqb size 16892) m k h

-- b and b': the bytes before and after it, and p and p' the reply buffer. Tables and leftovers are those of b, the request is answered over them, and
-- they are joined to b'.
module _ {b b' : List ℕ} (size own : ℕ) (f p : List ℕ) {p' x y m m' sm t rest : List ℕ} {d d' tv : List ℤ} {r : Answered}
    (split : plant (memory x y m sm t d tv) rest ≡ plant_of b)
    (back : image_of (plant_of b) ≡ b)
    (answered : told r m' d' p' ≡ pick (eqb size 16892) (answer_of own f m d p) (told (Refused 9 0) m d p))
    (joined : b' ≡ image_of (plant (memory x y m' sm t d' tv) rest))
    (again : plant_of b' ≡ plant (memory x y m' sm t d' tv) rest) where
  all : over (plant (memory x y m sm t d tv) rest) (told r m' d' p') ≡ answer_in size own f (plant_of b) p
  unfolding answer_in
  all =
      in-plant own f (plant (memory x y m sm t d tv) rest) p (eqb size 16892) answered
      ∙ ap (λ (z : Plant). answer_in size own f z p) split

  pub request-after : (r ≡ (answer_in size own f (plant_of b) p).answer)
      × ((plant_of b' ≡ (answer_in size own f (plant_of b) p).plant)
      × ((b' ≡ image_of (answer_in size own f (plant_of b) p).plant)
      × (((m k : ℕ) → r ≡ Refused m k → b' ≡ b)
      × (p' ≡ (answer_in size own f (plant_of b) p).reply))))
  request-after =
      let answer = ap (λ (e : AnswerIn). e.answer) all in
      let same = ap (λ (e : AnswerIn). e.plant) all in
      (answer, (tables_after joined again same, (bytes_after joined again same, ((λ m k h. no_byte joined again same back (refused_keeps own f (plant_of b) p size m k (sym answer ∙ h))), ap (λ (e : AnswerIn). e.reply) all))))
