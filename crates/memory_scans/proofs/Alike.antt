-- DEMAND 3 OF THE CODE: a pair of scans after an accepted move and the exchange answers alike. Assumes nothing.
use Prim.Native.Nat.{ℕ}
use mathlib.Core.List.{List, [], ◌∷◌}
use mathlib.Core.Path.{◌≡◌, refl, sym, ap, subst, ◌∙◌}
use Rattle.std.specs.Prelude.{Option, Some, None}
use lib.IntN.{ℤ}
use lib.ListN.{length, get_or}
use Rattle.demands.proofs.Demand3.{demand-3}
use Rattle.demands.specs.Demand3.{OfBytes, Same, with_exchange, scan_exchanged}
use Rattle.ec20.specs.Devices.{ec20}
use Rattle.ec20.specs.Exchange.{Exchange, exchanged, exchange_of}
use Rattle.ec20.specs.Memory.{with_d}
use Rattle.ec20.specs.Move.{Block, move_of}
use Rattle.ec20.specs.Plant.{Plant, plant}
use Rattle.ec20.specs.Scan.{Scan, scan_of}
use Rattle.image.proofs.Inverse.{image-length, plant-sizes}
use Rattle.image.specs.Image.{plant_of, image_of}
use Rattle.memories.specs.Images.{exchange_in}
use Rattle.ec20.specs.Buffer.{sent}
use Rattle.moving.specs.Series.{series}
use Rattle.turns.proofs.Inputs.{with_inputs, with-inputs}
use Rattle.turns.specs.declared.turn.Turn.{Turn}
use Rattle.turns.specs.Turns.{MovedTo, answer_of, FirstApart, Alike}
use Rattle.ec20.specs.Scanned.{Scanned}
use Rattle.memory_scans.specs.Pairs.{Paired}
use Rattle.memory_scans.specs.Scans.{scan_in}

-- no byte of a file is apart from itself
pub apart_none : (x : List ℕ) (r : Option ℕ) → FirstApart x x r → r ≡ None
apart_none x None a = refl
apart_none x (Some r) a = absurd (a.other refl)

module _ (f g : List ℕ) (b : Block) (q : ℕ) (s : Same ec20 f b q g) where
  -- one scan of the moved program on the exchanged memory
  one-scan : (e n : ℕ) (p : Plant) → scan_of g e n (with_exchange b q p) ≡ scan_exchanged b q (scan_of f e n p)
  unfolding scan_of series
  one-scan e n p =
      ap (λ (l : List Scan). get_or l 0 (scan_of f e n p)) (s.scans p (record { x = p.mem.x; elapsed = e; budget = n } ∷ []))

  -- exchanged back, the memory is the old program's
  back_again : (p : Plant) → length p.mem.d ≡ 8000 → (exchange_in 16892 b q (with_exchange b q p)).plant ≡ p
  unfolding exchange_in exchange_of
  back_again p h =
      let d = exchanged b q p.mem.d in
      ap (λ (x : Exchange). plant (with_d p.mem x.words) p.rest) (s.exchanges d (s.exchanges p.mem.d h).size).done
      ∙ ap (λ (w : List ℤ). plant (with_d p.mem w) p.rest) (s.exchanges p.mem.d h).twice

module _ {f g : List ℕ} {e n : ℕ} {b : Block} {q : ℕ} {x y : List ℕ} {t : Turn} {x' y' : List ℕ} where
  pub alike : OfBytes f → length x' ≡ 16892 → Paired f g e n b q x y t x' y' → MovedTo f b q g → plant_of y ≡ with_exchange b q (plant_of x)
      → Alike t × (plant_of y' ≡ with_exchange b q (plant_of x'))
  unfolding move_of
  alike byte size p m ex =
      let s : Same ec20 f b q g = (demand-3 f byte b m.in_pool).same q g m.answered in
      let new : scan_of g e n (plant_of y) ≡ scan_exchanged b q (scan_of f e n (plant_of x)) = ap (scan_of g e n) ex ∙ one-scan f g b q s e n (plant_of x) in
      let memories : plant_of y' ≡ with_exchange b q (plant_of x')
      = p.new_memory ∙ ap (λ (z : Scan). z.plant) new ∙ ap (with_exchange b q) (sym p.old_memory) in
      let back : image_of (exchange_in 16892 b q (plant_of y')).plant ≡ x'
      = ap (λ (z : Plant). image_of (exchange_in 16892 b q z).plant) memories
      ∙ ap image_of (back_again f g b q s (plant_of x') (plant-sizes x' size).d)
      ∙ sym p.old_bytes in (
        record {
          answers = p.old_answer ∙ ap (λ (z : Scan). answer_of z.answer) (sym new) ∙ sym p.new_answer;
          memories = apart_none x' t.apart (subst (λ (z : List ℕ). FirstApart x' z t.apart) back p.apart);
        },
        memories,
      )

-- inputs that are given alike to both leave memories and leftovers alike
pub inputs-alike : (b : Block) (q : ℕ) (xs x y : List ℕ) → length xs ≡ 32 → plant_of y ≡ with_exchange b q (plant_of x)
    → plant_of (sent xs y) ≡ with_exchange b q (plant_of (sent xs x))
inputs-alike b q xs x y e ex =
    with-inputs xs y e
    ∙ ap (with_inputs xs) ex
    ∙ sym (ap (with_exchange b q) (with-inputs xs x e))

-- ---- a pair, from what its calls give

-- what a scan over a memory file of the right size promises: its answer, memory and leftovers that the bytes then mean, and the bytes
abbrev pub ScannedOver : List ℕ → ℕ → ℕ → List ℕ → Scanned → List ℕ → Type 0
ScannedOver f e n x r x' =
    (r ≡ (scan_in f 16892 e n (plant_of x)).answer) × ((plant_of x' ≡ (scan_in f 16892 e n (plant_of x)).plant)
    × (x' ≡ image_of (scan_in f 16892 e n (plant_of x)).plant))

module _ (f g : List ℕ) (e n : ℕ) (b : Block) (q : ℕ) (x y : List ℕ) {t : Turn} {x' y' : List ℕ} where
  pub paired : {r s : Scanned} → ScannedOver f e n x r x' → t.old ≡ answer_of r → ScannedOver g e n y s y' → t.new ≡ answer_of s
      → FirstApart x' (image_of (exchange_in 16892 b q (plant_of y')).plant) t.apart → Paired f g e n b q x y t x' y'
  unfolding scan_in
  paired one told two told' apart = record {
    old_answer = told ∙ ap answer_of one.0;
    new_answer = told' ∙ ap answer_of two.0;
    old_memory = one.1.0;
    new_memory = two.1.0;
    old_bytes = one.1.1 ∙ ap image_of (sym one.1.0);
    new_bytes = two.1.1 ∙ ap image_of (sym two.1.0);
    apart = apart;
  }

  -- what a pair promises
  pub pair-says : OfBytes f → Paired f g e n b q x y t x' y'
      → Paired f g e n b q x y t x' y'
      × (MovedTo f b q g → plant_of y ≡ with_exchange b q (plant_of x) → Alike t × (plant_of y' ≡ with_exchange b q (plant_of x')))
  pair-says byte p = (p, alike byte (ap length p.old_bytes ∙ image-length (plant_of x')) p)
