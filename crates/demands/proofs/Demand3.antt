-- DEMAND 3 IS MET: demand-3. Its words and its statement are in specs/Demand3.antt.
use Prim.Native.Nat.{ℕ, ◌+◌, ◌≤◌, ◌<◌, ◌^◌}
use mathlib.Core.Bool.{true}
use mathlib.Core.List.{List, [], ◌∷◌, map}
use mathlib.Core.Path.{◌≡◌, refl, sym, ap, subst, ◌∙◌}
use native.Mathlib.Decide.{dec_lt}
use native.Mathlib.Omega.{arith}
use lib.Dec.{leb, ltb}
use lib.IntN.{ℤ, pos, neg_ℤ}
use lib.ListN.{length, set, replicate, get_or-eq_default}
use borrow.Author.Tests.{leb-true, ltb-true}
use Rattle.ec20.proofs.Computing.{computing}
use Rattle.ec20.proofs.Exchanges.{exchange-length, exchanged-back}
use Rattle.ec20.proofs.Files.{K, SM, D, r0, r1, r2, r3, file, blank}
use Rattle.ec20.proofs.MovedLaws.{moved_length, moved_at, comment-kept, trailer-kept}
use Rattle.ec20.proofs.Tests.{both}
use Rattle.ec20.specs.Moved.{To}
use Rattle.ec20.specs.Devices.{Device, ec20, within}
use Rattle.ec20.specs.Exchange.{swapped, exchange_by}
use Rattle.ec20.specs.File.{byte_at, first_of, count_of}
use Rattle.ec20.specs.Memory.{with_d}
use Rattle.ec20.specs.Move.{Block, block, Pool, pool, Move, move, move_for, moved_byte, moved_file}
use Rattle.ec20.specs.Plant.{Plant, plant}
use Rattle.ec20.specs.Registers.{word_at}
use Rattle.ec20.specs.Scan.{Scan}
use Rattle.moving.specs.Rename.{Swap}
use Rattle.moving.specs.Series.{Input, series}
use Rattle.moving.proofs.Exchange.{read}
use Rattle.moving.proofs.Series.{series-sim}
use Rattle.moved.proofs.Example.{bytes_below}
use Rattle.moved.proofs.Moved.{moved-for}
use Rattle.ec20.proofs.Ranges.{within-yes}
use Rattle.ec20.proofs.Tests.{is_false}
use Rattle.demands.specs.Demand3.{OfBytes, with_exchange, scan_exchanged, Same, Demand3}
use Rattle.demands.specs.Lines.{In, InBlock, Lowest}
use Rattle.demands.proofs.MoveAnswers.{move_numbers}

-- ---- the exchange, word by word

within_in : (a n i : ℕ) → within a n i ≡ true → In a n i
unfolding within
within_in a n i e = let q = both (leb a i) (ltb i (a + n)) e in record { from = leb-true _ _ q.0; to = ltb-true _ _ q.1 }

module _ (b : Block) (q : ℕ) where
  abbrev σ : ℕ → ℕ
  σ = swapped b q

  block_goes : (j : ℕ) → j < b.length → σ (b.start + j) ≡ q + j
  unfolding swapped
  block_goes j h = rw (within-yes b.start b.length (b.start + j) (omega arith) (omega arith)) (omega arith)

  others-stay : (i : ℕ) → (InBlock b i → ⊥) → (In q b.length i → ⊥) → σ i ≡ i
  unfolding swapped
  others-stay i h k =
      rw (is_false (within b.start b.length i) (λ e. h (within_in b.start b.length i e)), is_false (within q b.length i) (λ e. k (within_in q b.length i e)))

  module _ (words : ℕ) (swap : Swap σ words) (d : List ℤ) (size : length d ≡ words) where
    abbrev d' : List ℤ
    d' = exchange_by σ d

    here : Swap σ (length d)
    here = subst (Swap σ) (sym size) swap

    place-goes : (j : ℕ) → j < b.length → σ (q + j) ≡ b.start + j
    place-goes j h = ap σ (sym (block_goes j h)) ∙ swap.twice (b.start + j)

    pub in_place : (j : ℕ) → j < b.length → word_at d' (q + j) ≡ word_at d (b.start + j)
    in_place j h = ap (word_at d') (sym (block_goes j h)) ∙ read σ d here (b.start + j)

    pub in_block : (j : ℕ) → j < b.length → word_at d' (b.start + j) ≡ word_at d (q + j)
    in_block j h = ap (word_at d') (sym (place-goes j h)) ∙ read σ d here (q + j)

    pub elsewhere : (i : ℕ) → (InBlock b i → ⊥) → (In q b.length i → ⊥) → word_at d' i ≡ word_at d i
    elsewhere i h k = ap (word_at d') (sym (others-stay i h k)) ∙ read σ d here i

    pub twice_same : exchange_by σ d' ≡ d
    twice_same = exchanged-back σ d here.twice here.stays

-- ---- the moved file, outside its records

module _ (b : Block) (q : ℕ) (f g : List ℕ) (bytes : g ≡ moved_file b q f) where
  same_size : length g ≡ length f
  same_size = ap length bytes ∙ moved_length b q f

  -- past the end both read as 0
  same_byte : (i : ℕ) → moved_byte b q f (first_of f) (count_of f) i ≡ byte_at f i → byte_at g i ≡ byte_at f i
  same_byte i e =
      elim (dec_lt i (length f)) [
        | yes h ↦ ap (λ (x : List ℕ). byte_at x i) bytes ∙ moved_at b q f i h ∙ e
        | no h ↦ get_or-eq_default g 0 (omega (arith, same_size, h)) ∙ sym (get_or-eq_default f 0 (omega (arith, h)))
      ]

-- on every device whose D numbers fit four bytes
module _ (v : Device) (small : v.words ≤ 2 ^ 32) (f : List ℕ) (byte : OfBytes f) (b : Block) (l : Pool) where
  same : (q : ℕ) (g : List ℕ) → move_for v f b l ≡ move (To q) g → Same v f b q g
  same q g e =
      let m = moved-for v small f byte b l q g e in
      record {
        bytes = m.bytes;
        size = same_size b q f g m.bytes;
        comment = λ i h. same_byte b q f g m.bytes i (comment-kept b q f (first_of f) (count_of f) i h);
        trailer = λ i h. same_byte b q f g m.bytes i (trailer-kept b q f (first_of f) (count_of f) i h);
        program = m.program;
        check = m.answer;
        exchanges = λ d h.
            record {
              done = m.exchange d h;
              size = exchange-length (swapped b q) d ∙ h;
              to_place = in_place b q v.words m.swap d h;
              to_block = in_block b q v.words m.swap d h;
              others = elsewhere b q v.words m.swap d h;
              twice = twice_same b q v.words m.swap d h;
            };
        scans = series-sim (swapped b q) v m.swap f g m.answer m.program m.whole;
      }

  pub moves-on : Demand3 v f b l
  moves-on = record {
    picks = (move_numbers v f b l).place;
    no_place = (move_numbers v f b l).fourteen;
    same = same;
  }

pub demand-3 : (f : List ℕ) → OfBytes f → (b : Block) (l : Pool) → Demand3 ec20 f b l
demand-3 f byte b l = moves-on ec20 (omega arith) f byte b l

-- ---- and it is not for nothing: LD SM0, DMOV 100000 to D100, DDIV D100 by D200 to D104, END. The pool begins at D195, but D200 and D201 are in
-- use: the block D100 to D109 goes to D202

abbrev sample : ℕ → List ℕ
sample a = file (r1 1 (SM 0) ∷ r2 48 (K 100000) (D a) ∷ r3 52 (D a) (D 200) (D (a + 4)) ∷ r0 23 ∷ [])

abbrev ten : Block
ten = block 100 10

abbrev free : Pool
free = pool 195 400

goes : move_for ec20 (sample 100) ten free ≡ move (To 202) (sample 202)
unfolding computing
goes = refl

met : Demand3 ec20 (sample 100) ten free
met = demand-3 (sample 100) (bytes_below (sample 100) refl) ten free

pub sample-same : Same ec20 (sample 100) ten 202 (sample 202)
sample-same = met.same 202 (sample 202) goes

pub sample-lowest : Lowest ec20 (sample 100) ten free 202
sample-lowest = ((met.picks 202).0 (ap (λ (m : Move). m.answer) goes)).1

-- D201 holds 3: the quotient 33333 stands at D104 in the old program's table, at D206 in the moved one's, after each of two scans
pub three : Plant
three = plant (with_d blank (set blank.d 201 (pos 3))) (9 ∷ 99 ∷ [])

abbrev twice : List Input
twice = record { x = replicate 32 255; elapsed = 1; budget = 100 } ∷ record { x = replicate 32 0; elapsed = 2; budget = 4 } ∷ []

abbrev read_at : ℕ → Scan → ℤ
read_at i s = word_at s.plant.mem.d i

pub old-quotients : map (read_at 105) (series ec20 (sample 100) three twice) ≡ neg_ℤ (pos 32203) ∷ neg_ℤ (pos 32203) ∷ []
unfolding computing series three
old-quotients = refl

pub new-quotients : map (read_at 207) (series ec20 (sample 202) (with_exchange ten 202 three) twice) ≡ neg_ℤ (pos 32203) ∷ neg_ℤ (pos 32203) ∷ []
unfolding computing series three
new-quotients = refl

pub quotients-same : series ec20 (sample 202) (with_exchange ten 202 three) twice ≡ map (scan_exchanged ten 202) (series ec20 (sample 100) three twice)
quotients-same = sample-same.scans three twice

-- of 9 and 99 ms, of which the first scan makes a whole unit each, both leave the same
abbrev leftovers : List Scan → List (List ℕ)
leftovers ss = map (λ (s : Scan). s.plant.rest) ss

pub leftovers-same : (leftovers (series ec20 (sample 100) three twice) ≡ (0 ∷ 0 ∷ []) ∷ (2 ∷ 2 ∷ []) ∷ [])
    × (leftovers (series ec20 (sample 202) (with_exchange ten 202 three) twice) ≡ (0 ∷ 0 ∷ []) ∷ (2 ∷ 2 ∷ []) ∷ [])
unfolding computing series three
leftovers-same = (refl, refl)
