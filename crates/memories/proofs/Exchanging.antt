-- An exchange in a memory file, from what its calls give. Assumes nothing.
use Prim.Native.Nat.{ℕ}
use mathlib.Core.Bool.{Bool, true, false}
use mathlib.Core.List.{List}
use mathlib.Core.Path.{◌≡◌, refl, sym, ap, ◌∙◌}
use lib.Dec.{eqb}
use lib.IntN.{ℤ}
use Rattle.ec20.proofs.Laws.{refused-exchange-keeps}
use Rattle.ec20.specs.Basics.{pick}
use Rattle.ec20.specs.Exchange.{Exchange, exchange_of}
use Rattle.ec20.specs.Memory.{memory, with_d}
use Rattle.ec20.specs.Move.{Block}
use Rattle.ec20.specs.Plant.{Plant, plant}
use Rattle.ec20.specs.Exchanged.{Exchanged}
use Rattle.ec20.specs.Exchanged.{Refused}
use Rattle.image.specs.Image.{plant_of, image_of}
use Rattle.memories.proofs.After.{tables_after, bytes_after, no_byte}
use Rattle.memories.specs.Images.{ExchangeIn, exchange_in}

abbrev told : Exchanged → List ℤ → Exchange
told a d = record { answer = a; words = d }

-- the memory with D as the exchange leaves it, and the same leftovers
abbrev over : Plant → Exchange → ExchangeIn
over p e = record { answer = e.answer; plant = plant (with_d p.mem e.words) p.rest }

module _ (p : Plant) (b : Block) (q : ℕ) where
  abbrev done : ExchangeIn
  done = over p (exchange_of p.mem.d b q)

  abbrev unsized : ExchangeIn
  unsized = record { answer = Refused 9 0; plant = p }

  in-plant : (t : Bool) {e : Exchange} → e ≡ pick t (exchange_of p.mem.d b q) (told (Refused 9 0) p.mem.d) → over p e ≡ pick t done unsized
  in-plant true h = ap (over p) h
  in-plant false h = ap (over p) h

  keeps : (t : Bool) (m k : ℕ) → (pick t done unsized).answer ≡ Refused m k → (pick t done unsized).plant ≡ p
  keeps true m k h = ap (λ (d : List ℤ). plant (with_d p.mem d) p.rest) (refused-exchange-keeps p.mem.d b q (rw h tt))
  keeps false m k h = refl

  pub refused_keeps : (size m k : ℕ) → (exchange_in size b q p).answer ≡ Refused m k → (exchange_in size b q p).plant ≡ p
  unfolding exchange_in
  refused_keeps size m k h = keeps (eqb size 16892) m k h

-- b and b': the bytes before and after it. Tables and leftovers are those of b, D is exchanged in them, and they are joined to b'.
module _ {b b' : List ℕ} (size : ℕ) (l : Block) (q : ℕ) {x y m sm t rest : List ℕ} {d d' tv : List ℤ} {r : Exchanged}
    (split : plant (memory x y m sm t d tv) rest ≡ plant_of b)
    (back : image_of (plant_of b) ≡ b)
    (words : told r d' ≡ pick (eqb size 16892) (exchange_of d l q) (told (Refused 9 0) d))
    (joined : b' ≡ image_of (plant (memory x y m sm t d' tv) rest))
    (again : plant_of b' ≡ plant (memory x y m sm t d' tv) rest) where
  all : over (plant (memory x y m sm t d tv) rest) (told r d') ≡ exchange_in size l q (plant_of b)
  unfolding exchange_in
  all = in-plant (plant (memory x y m sm t d tv) rest) l q (eqb size 16892) words ∙ ap (exchange_in size l q) split

  pub exchange-after : (r ≡ (exchange_in size l q (plant_of b)).answer)
      × ((plant_of b' ≡ (exchange_in size l q (plant_of b)).plant)
      × ((b' ≡ image_of (exchange_in size l q (plant_of b)).plant)
      × ((m k : ℕ) → r ≡ Refused m k → b' ≡ b)))
  exchange-after =
      let answer = ap (λ (e : ExchangeIn). e.answer) all in
      let same = ap (λ (e : ExchangeIn). e.plant) all in
      (answer, (tables_after joined again same, (bytes_after joined again same, λ m k h. no_byte joined again same back (refused_keeps (plant_of b) l q size m k (sym answer ∙ h)))))
