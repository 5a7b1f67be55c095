-- TWO MOVES, EITHER ORDER, AND BACK: two-moves and there_and_back. The words and statements are in specs/Two.antt.
use Prim.Native.Nat.{ℕ, ◌≤◌, ◌<◌, ◌^◌}
use mathlib.Core.List.{List, map, map-map}
use mathlib.Core.Logic.{inl, inr}
use mathlib.Core.Path.{◌≡◌, sym, ap, subst, fun_ext, ◌∙◌}
use native.Mathlib.Omega.{arith}
use lib.IntN.{ℤ}
use lib.ListN.{length}
use Rattle.blocks.proofs.Swapped.{clear}
use Rattle.demands.proofs.Demand3.{moves-on}
use Rattle.demands.specs.Demand3.{OfBytes, with_exchange, scan_exchanged, Same}
use Rattle.demands.specs.Lines.{In}
use Rattle.ec20.proofs.Exchanges.{exchange-length, exchanged-back}
use Rattle.ec20.specs.Check.{check_for}
use Rattle.ec20.specs.Devices.{Device, ec20}
use Rattle.ec20.specs.Exchange.{Exchange, exchange_by, exchanged}
use Rattle.ec20.specs.File.{records_of}
use Rattle.ec20.specs.Move.{move}
use Rattle.ec20.specs.Exchanged.{Done}
use Rattle.ec20.specs.Moved.{To}
use Rattle.jobs.specs.Tasks.{Task, move_by, pool_of, back}
use Rattle.moved.proofs.Exchanged.{is-swap, exchange-done}
use Rattle.moved.proofs.Taken.{placed}
use Rattle.moving.specs.Rename.{Swap, rename_rec}
use Rattle.moving.specs.Series.{series}
use Rattle.orders.specs.Two.{Goes, in_block, in_place, Disjoint, EitherOrder, ThereAndBack}
use Rattle.orders.specs.Two as W
use Rattle.orders.proofs.After.{still-goes, goes_back, check-after}
use Rattle.orders.proofs.Image.{moved-bytes, own, images-same, image-moved}
use Rattle.orders.proofs.Renamed.{rec-commute, rec-twice}
use Rattle.orders.proofs.Tables.{tables-commute}
use Rattle.orders.proofs.Went.{Went, found, some_word, the-file, the-answer, file_by, went}
use Rattle.orders.proofs.Words.{exchange_of, clear_of, commute, back-same}

-- ---- one accepted move

module _ {v : Device} {f : List ℕ} {t : Task} (w : Went v f t) where
  pub swap-of : Swap (exchange_of t) v.words
  swap-of = is-swap v t.block t.place (placed (found w)).two

  -- the exchange by the task is granted
  pub exchange-of : (d : List ℤ) → length d ≡ v.words → W.exchange_by v d t ≡ record { answer = Done; words = exchanged t.block t.place d }
  exchange-of = exchange-done (found w)

  pub keeps-table : (d : List ℤ) → length d ≡ v.words → (i : ℕ) → i < length d → exchange_of t i < length d
  keeps-table d e = subst (λ (n : ℕ). (i : ℕ) → i < n → exchange_of t i < n) (sym e) swap-of.stays

  pub table-size : (d : List ℤ) → length d ≡ v.words → length (exchanged t.block t.place d) ≡ v.words
  table-size d e = exchange-length (exchange_of t) d ∙ e

pub disjoint-back : (s t : Task) → Disjoint s t → Disjoint t s
disjoint-back s t d i x y = d i y x

-- ---- two

module _ (v : Device) (few : v.words ≤ 2 ^ 32) (f : List ℕ) (byte : OfBytes f) where
  -- an accepted move after another, with which it has no word in common
  pub second : (s t : Task) → Went v f s → Went v f t → Disjoint s t → Went v (file_by s f) t
  second s t ws wt d =
      still-goes v few f byte s ws t wt
      (clear_of s.place s.block.length t.block.start t.block.length (some_word ws) (some_word wt) (λ i x y. d i (in_place x) (in_block y)))
      (clear_of s.place s.block.length t.place t.block.length (some_word ws) (some_word wt) (λ i x y. d i (in_place x) (in_place y)))

  -- the same bytes in either order
  pub same_bytes : (s t : Task) → Went v f s → Went v f t → Disjoint s t → file_by t (file_by s f) ≡ file_by s (file_by t f)
  same_bytes s t ws wt d =
      images-same
      (image-moved few (image-moved few (own f byte) s ws) t (second s t ws wt d))
      (image-moved few (image-moved few (own f byte) t wt) s (second t s wt ws (disjoint-back s t d)))
      (λ k _. rec-commute (exchange_of s) (exchange_of t) (commute s t d) ((records_of f).at k))

  -- the same table
  pub same-table : (s t : Task) → Went v f s → Went v f t → Disjoint s t → (d : List ℤ) → length d ≡ v.words
      → exchanged t.block t.place (exchanged s.block s.place d) ≡ exchanged s.block s.place (exchanged t.block t.place d)
  same-table s t ws wt x d e =
      tables-commute (exchange_of t) (exchange_of s) d (keeps-table wt d e) (keeps-table ws d e) (λ i. sym (commute s t x i))

  -- demand 3 of one accepted move
  pub same_of : (t : Task) → Went v f t → Same v f t.block t.place (file_by t f)
  same_of t w = (moves-on v few f byte t.block (pool_of t)).same t.place (file_by t f) w.answer

module _ (v : Device) (few : v.words ≤ 2 ^ 32) (f : List ℕ) (byte : OfBytes f) where
  either_order : (s t : Task) → Went v f s → Went v f t → Disjoint s t → EitherOrder v f s t
  either_order s t ws wt d =
      let x = second v few f byte s t ws wt d in
      let y = second v few f byte t s wt ws (disjoint-back s t d) in
      let byte' = moved-bytes s.block s.place f byte in
      let twice : (move_by v (move_by v f s).file t).file ≡ file_by t (file_by s f) = ap (λ (h : List ℕ). (move_by v h t).file) (the-file ws) ∙ the-file x in
      let other : (move_by v (move_by v f t).file s).file ≡ file_by s (file_by t f) = ap (λ (h : List ℕ). (move_by v h s).file) (the-file wt) ∙ the-file y in
      record {
        first = the-answer ws;
        then_second = ap (λ (h : List ℕ). (move_by v h t).answer) (the-file ws) ∙ the-answer x;
        second = the-answer wt;
        then_first = ap (λ (h : List ℕ). (move_by v h s).answer) (the-file wt) ∙ the-answer y;
        bytes = twice ∙ same_bytes v few f byte s t ws wt d ∙ sym other;
        first_done = λ l e. ap (λ (z : Exchange). z.answer) (exchange-of ws l e);
        second_done = λ l e. ap (λ (z : Exchange). z.answer) (exchange-of wt l e);
        table = λ l e.
            let a = ap (λ (z : Exchange). W.exchange_by v z.words t) (exchange-of ws l e) ∙ exchange-of wt _ (table-size ws l e) in
            let b = ap (λ (z : Exchange). W.exchange_by v z.words s) (exchange-of wt l e) ∙ exchange-of ws _ (table-size wt l e) in (
              ap (λ (z : Exchange). z.answer) a,
              a ∙ ap (λ (z : List ℤ). record { answer = Done; words = z }) (same-table v few f byte s t ws wt d l e) ∙ sym b,
            );
        check = ap (check_for v) twice ∙ check-after v few (file_by s f) byte' t x ∙ check-after v few f byte s ws;
        scans = λ p is.
            ap (λ (h : List ℕ). series v h (with_exchange t.block t.place (with_exchange s.block s.place p)) is) twice
            ∙ (same_of v few (file_by s f) byte' t x).scans (with_exchange s.block s.place p) is
            ∙ ap (map (scan_exchanged t.block t.place)) ((same_of v few f byte s ws).scans p is)
            ∙ map-map (scan_exchanged t.block t.place) (scan_exchanged s.block s.place) (series v f p is);
      }

  -- ---- and back

  -- block and place of an accepted move have no word in common
  apart : (t : Task) → Went v f t → (i : ℕ) → In t.block.start t.block.length i → In t.place t.block.length i → ⊥
  apart t w i x y =
      elim (clear t.place t.block.length t.block.start t.block.length (placed (found w)).two.apart) [
        | inl h ↦ omega (arith, h, x.from, x.to, y.from, y.to)
        | inr h ↦ omega (arith, h, x.from, x.to, y.from, y.to)
      ]

  same-exchange : (t : Task) → Went v f t → exchange_of (back t) ≡ exchange_of t
  same-exchange t w = fun_ext (back-same t (apart t w))

  -- every byte, and every word
  pub bytes_back : (t : Task) → Went v f t → file_by (back t) (file_by t f) ≡ f
  bytes_back t w =
      images-same
      (image-moved few (image-moved few (own f byte) t w) (back t) (goes_back v few f byte t w))
      (own f byte)
      (λ k _.
      ap (λ (ρ : ℕ → ℕ). rename_rec ρ (rename_rec (exchange_of t) ((records_of f).at k))) (same-exchange t w)
      ∙ rec-twice (exchange_of t) (swap-of w).twice ((records_of f).at k))

  pub table-back : (t : Task) → Went v f t → (d : List ℤ) → length d ≡ v.words
      → exchanged (back t).block (back t).place (exchanged t.block t.place d) ≡ d
  table-back t w d e =
      ap (λ (ρ : ℕ → ℕ). exchange_by ρ (exchanged t.block t.place d)) (same-exchange t w)
      ∙ exchanged-back (exchange_of t) d (swap-of w).twice (keeps-table w d e)

  round_trip : (t : Task) → Went v f t → ThereAndBack v f t
  round_trip t w =
      let x = goes_back v few f byte t w in
      record {
        bytes = ap (λ (h : List ℕ). move_by v h (back t)) (the-file w) ∙ x.answer ∙ ap (move (To t.block.start)) (bytes_back t w);
        table = λ d e.
            ap (λ (z : Exchange). W.exchange_by v z.words (back t)) (exchange-of w d e)
            ∙ exchange-of x (exchanged t.block t.place d) (table-size w d e)
            ∙ ap (λ (z : List ℤ). record { answer = Done; words = z }) (table-back t w d e);
      }

-- ---- THE THEOREMS, of the EC20: of every file of bytes

-- "each move accepted alone on the original", "all four ranges disjoint"
pub two-moves : (f : List ℕ) → OfBytes f → (s t : Task) → Goes ec20 f s → Goes ec20 f t → Disjoint s t → EitherOrder ec20 f s t
two-moves f byte s t gs gt d = either_order ec20 (omega arith) f byte s t (went ec20 f s gs) (went ec20 f t gt) d

pub there_and_back : (f : List ℕ) → OfBytes f → (t : Task) → Goes ec20 f t → ThereAndBack ec20 f t
there_and_back f byte t g = round_trip ec20 (omega arith) f byte t (went ec20 f t g)
