-- A series of pairs of scans, of which none differs. Assumes nothing.
use Prim.Native.Nat.{ℕ, ◌-◌}
use mathlib.Core.Bool.{Bool, true, false}
use mathlib.Core.List.{List}
use mathlib.Core.Logic.{◌⊎◌, ⊎_elim}
use mathlib.Core.Path.{◌≡◌, refl, sym, ap, subst, ◌∙◌}
use native.Mathlib.Omega.{arith}
use lib.IntN.{ℤ}
use lib.ListN.{length, take}
use Rattle.std.specs.Prelude.{Err}
use Rattle.calls.specs.declared.results.Status.TheVariants.{Answered, Refused, NotTried}
use Rattle.calls.specs.declared.results.Status.{Status}
use Rattle.demands.specs.Demand3.{with_exchange}
use Rattle.ec20.proofs.Tests.{differ}
use Rattle.ec20.specs.Exchanged.{Exchanged}
use Rattle.ec20.specs.Exchanged.{Done, Refused as NotExchanged}
use Rattle.ec20.specs.Judged.{Judged}
use Rattle.ec20.specs.Judged.{Fine}
use Rattle.ec20.specs.Devices.{ec20}
use Rattle.ec20.specs.Exchange.{Exchange, exchanged, judge_exchange, exchange_if, exchange_for, exchange_of}
use Rattle.ec20.specs.Memory.{with_d}
use Rattle.ec20.specs.Move.{Block, block, move_of}
use Rattle.ec20.specs.Plant.{Plant, plant}
use Rattle.image.proofs.Inverse.{image-length, plant-sizes}
use Rattle.image.specs.Image.{plant_of, image_of}
use Rattle.memories.specs.Images.{exchange_in}
use Rattle.memories.specs.declared.exchanges.Way.{Way}
use Rattle.memory_scans.proofs.Alike.{inputs-alike}
use Rattle.ec20.specs.Buffer.{sent}
use Rattle.moved.proofs.Exchanged.{exchange-done}
use Rattle.moved.proofs.Taken.{taken}
use Rattle.turns.proofs.Inputs.{drawn-length}
use Rattle.turns.specs.Turns.{MovedTo, drawn}

-- the memory file y is x with the ranges exchanged
abbrev pub ExchangedIn : Way → List ℕ → List ℕ → Type 0
ExchangedIn w x y = plant_of y ≡ with_exchange (block w.start w.length) w.place (plant_of x)

-- the new program is the old one, moved
abbrev pub MovedIn : Way → List ℕ → List ℕ → Type 0
MovedIn w f g = MovedTo f (block w.start w.length) w.place g

-- after an accepted move and the exchange so many scans differ, none; and the memories, with the ranges exchanged, are the same still
abbrev pub NoneDiffers : Way → List ℕ → List ℕ → List ℕ → List ℕ → ℕ → List ℕ → List ℕ → Type 0
NoneDiffers w f g x₀ y₀ differ x y = MovedIn w f g → ExchangedIn w x₀ y₀ → (differ ≡ 0) × ExchangedIn w x y

-- inputs that are drawn for both
pub drawn-alike : (w : Way) (s : ℕ) (x y : List ℕ) {x' y' : List ℕ} → x' ≡ sent (drawn 32 s) x → y' ≡ sent (drawn 32 s) y → ExchangedIn w x y → ExchangedIn w x' y'
drawn-alike w s x y e f h =
    ap plant_of f ∙ inputs-alike (block w.start w.length) w.place (drawn 32 s) x y (drawn-length 32 s) h
    ∙ sym (ap (λ (l : List ℕ). with_exchange (block w.start w.length) w.place (plant_of l)) e)

-- ---- the exchange that comes first

is-done : Exchanged → Bool
is-done Done = true
is-done (Err r) = false

done-words : (j : Judged) (d : List ℤ) (b : Block) (q : ℕ) → Done ≡ (exchange_if j d b q).answer → (exchange_if j d b q).words ≡ exchanged b q d
unfolding is-done
done-words Fine d b q e = refl
done-words (Err r) d b q e = differ (ap is-done e)

-- after an accepted move it is granted, of a table of 8,000 words
granted : (w : Way) (f g : List ℕ) → MovedIn w f g → (d : List ℤ) → length d ≡ 8000
    → exchange_for ec20 d (block w.start w.length) w.place ≡ record { answer = Done; words = exchanged (block w.start w.length) w.place d }
unfolding move_of
granted w f g m d h = exchange-done (taken ec20 f (block w.start w.length) m.in_pool w.place g m.answered) d h

-- what the exchange in a memory file promises: its answer, the memory that the bytes then mean, the bytes, and that a refused one changes none
abbrev ExchangesIn : Way → List ℕ → Exchanged → List ℕ → Type 0
ExchangesIn w x r x' =
    let e = exchange_in 16892 (block w.start w.length) w.place (plant_of x) in
    (r ≡ e.answer) × ((plant_of x' ≡ e.plant) × ((x' ≡ image_of e.plant) × ((m k : ℕ) → r ≡ NotExchanged m k → x' ≡ x)))

-- with other D words
abbrev with-words : Plant → List ℤ → Plant
with-words p d = plant (with_d p.mem d) p.rest

pub exchanged-in : (w : Way) (f g x : List ℕ) {x' : List ℕ} (r : Exchanged) → MovedIn w f g → ExchangesIn w x r x' → ExchangedIn w x x'
unfolding exchange_in exchange_of exchange_for
exchanged-in w f g x Done m h =
    let b = block w.start w.length in
    let p = plant_of x in
    h.1.0 ∙ ap (with-words p) (done-words (judge_exchange ec20 p.mem.d b w.place) p.mem.d b w.place h.0)
exchanged-in w f g x (Err r) m h =
    let size : length x ≡ 16892 = ap length (sym (h.1.1.1 r.number r.at refl)) ∙ ap length h.1.1.0 ∙ image-length _ in
    let p = plant_of x in
    h.1.0 ∙ ap (λ (e : Exchange). with-words p e.words) (granted w f g m p.mem.d (plant-sizes x size).d)

-- so a trial does not end in 'found to differ'
pub not-refused : {s : Status} → (s ≡ Answered) ⊎ (s ≡ NotTried) → s ≡ Refused → ⊥
not-refused h e = ⊎_elim (λ q. cc) (λ q. cc) h

-- both programs at the start of their buffers, from byte 0 on
pub moved-parts : (w : Way) (f g : List ℕ) (k : ℕ) → MovedIn w (take k f) (take k g) → MovedIn w (take (k - 0) f) (take (k - 0) g)
moved-parts w f g k m = subst (λ (j : ℕ). MovedIn w (take j f) (take j g)) (let e : k ≡ k - 0 = omega arith in e) m

-- both memories are of the same bytes, and then the ranges are exchanged in one
pub from-same : (w : Way) {x x₀ y₀ : List ℕ} (y : List ℕ) → x ≡ x₀ → y₀ ≡ x₀ → ExchangedIn w y₀ y → ExchangedIn w x y
from-same w y e f h = h ∙ ap (λ (l : List ℕ). with_exchange (block w.start w.length) w.place (plant_of l)) (f ∙ sym e)
