-- All the way back: the tasks of a list that fits, each from its place to its block, fit the moved file, and restore file and table. Assumes nothing.
use Prim.Native.Nat.{ℕ, ◌≤◌, ◌^◌}
use mathlib.Core.List.{List, [], ◌∷◌, map}
use mathlib.Core.Path.{◌≡◌, refl, sym, ap, ◌∙◌}
use lib.IntN.{ℤ}
use lib.ListN.{length}
use Rattle.demands.specs.Demand3.{OfBytes}
use Rattle.ec20.specs.Devices.{Device}
use Rattle.ec20.specs.Exchange.{exchanged}
use Rattle.jobs.specs.Tasks.{Task, back, moved_by, exchanged_by}
use Rattle.orders.specs.Any.{DisjointFrom, AllDisjoint, Fits}
use Rattle.orders.specs.Two.{Goes, Touched, in_block, in_place}
use Rattle.orders.proofs.After.{goes_back}
use Rattle.orders.proofs.Any.{first-went, rest-fits, rest-bytes}
use Rattle.orders.proofs.Two.{disjoint-back, table-size, second, same_bytes, same-table, bytes_back, table-back}
use Rattle.orders.proofs.Went.{the-answer, file_by, went}

-- ---- the way back touches the same words

touched-back : (t : Task) (i : ℕ) → Touched (back t) i → Touched t i
touched-back t i (in_block h) = in_place h
touched-back t i (in_place h) = in_block h

from_back : (t : Task) (ts : List Task) → DisjointFrom t ts → DisjointFrom (back t) ts
from_back t [] d = tt
from_back t (u ∷ ts) d = ((λ i x y. d.0 i (touched-back t i x) y), from_back t ts d.1)

all_back : (t : Task) (ts : List Task) → DisjointFrom t ts → DisjointFrom t (map back ts)
all_back t [] d = tt
all_back t (u ∷ ts) d = ((λ i x y. d.0 i x (touched-back u i y)), all_back t ts d.1)

disjoint-all : (ts : List Task) → AllDisjoint ts → AllDisjoint (map back ts)
disjoint-all [] d = tt
disjoint-all (t ∷ ts) d = (from_back t (map back ts) (all_back t ts d.0), disjoint-all ts d.1)

module _ (v : Device) (few : v.words ≤ 2 ^ 32) where
  -- ---- a task that fits ahead of the others fits behind them, with the same bytes and words

  behind-first : {f : List ℕ} → OfBytes f → {u t : Task} {ts : List Task} → Fits v f (u ∷ t ∷ ts) → Fits v (file_by t f) (u ∷ ts)
  behind-first {f} byte {u} {t} {ts} x =
      let wu = went v f u x.each.0 in
      let wt = went v f t x.each.1.0 in
      let y = rest-fits v few byte {t = t} {ts = ts} (record { each = x.each.1; disjoint = x.disjoint.1 }) in
      record {
        each = ((u.place, the-answer (second v few f byte t u wt wu (disjoint-back u t x.disjoint.0.0))), y.each);
        disjoint = (x.disjoint.0.1, y.disjoint);
      }

  still-accepted : (f : List ℕ) → OfBytes f → (u : Task) (ts : List Task) → Fits v f (u ∷ ts) → Goes v (moved_by ts f) u
  unfolding moved_by
  still-accepted f byte u [] x = x.each.0
  still-accepted f byte u (t ∷ ts) x = still-accepted (file_by t f) (rest-bytes v few f byte t) u ts (behind-first byte x)

  pass-bytes : (f : List ℕ) → OfBytes f → (u : Task) (ts : List Task) → Fits v f (u ∷ ts) → file_by u (moved_by ts f) ≡ moved_by ts (file_by u f)
  unfolding moved_by
  pass-bytes f byte u [] x = refl
  pass-bytes f byte u (t ∷ ts) x =
      pass-bytes (file_by t f) (rest-bytes v few f byte t) u ts (behind-first byte x)
      ∙ ap (moved_by ts) (sym (same_bytes v few f byte u t (went v f u x.each.0) (went v f t x.each.1.0) x.disjoint.0.0))

  pass-table : (f : List ℕ) → OfBytes f → (u : Task) (ts : List Task) → Fits v f (u ∷ ts) → (d : List ℤ) → length d ≡ v.words
      → exchanged u.block u.place (exchanged_by ts d) ≡ exchanged_by ts (exchanged u.block u.place d)
  unfolding exchanged_by
  pass-table f byte u [] x d l = refl
  pass-table f byte u (t ∷ ts) x d l =
      let wu = went v f u x.each.0 in
      let wt = went v f t x.each.1.0 in
      pass-table (file_by t f) (rest-bytes v few f byte t) u ts (behind-first byte x) (exchanged t.block t.place d) (table-size wt d l)
      ∙ ap (exchanged_by ts) (sym (same-table v few f byte u t wu wt x.disjoint.0.0 d l))

  -- ---- and back

  -- after the first move, the way back of it and the others
  with-back : {f : List ℕ} → OfBytes f → {t : Task} {ts : List Task} → Fits v f (t ∷ ts) → Fits v (file_by t f) (back t ∷ ts)
  with-back {f} byte {t} {ts} x =
      let y = rest-fits v few byte x in
      record {
        each = ((t.block.start, the-answer (goes_back v few f byte t (first-went v few x))), y.each);
        disjoint = (from_back t ts x.disjoint.0, y.disjoint);
      }

  pub back_fits : (f : List ℕ) → OfBytes f → (ts : List Task) → Fits v f ts → Fits v (moved_by ts f) (map back ts)
  unfolding moved_by
  back_fits f byte [] x = x
  back_fits f byte (t ∷ ts) x =
      let y = back_fits (file_by t f) (rest-bytes v few f byte t) ts (rest-fits v few byte x) in
      record {
        each = (still-accepted (file_by t f) (rest-bytes v few f byte t) (back t) ts (with-back byte x), y.each);
        disjoint = disjoint-all (t ∷ ts) x.disjoint;
      }

  abbrev tail-fits : {f : List ℕ} {t : Task} {ts : List Task} → Fits v f (t ∷ ts) → Fits v f ts
  tail-fits x = record { each = x.each.1; disjoint = x.disjoint.1 }

  pub file-back : (f : List ℕ) → OfBytes f → (ts : List Task) → Fits v f ts → moved_by (map back ts) (moved_by ts f) ≡ f
  unfolding moved_by
  file-back f byte [] x = refl
  file-back f byte (t ∷ ts) x =
      ap (moved_by (map back ts)) (pass-bytes (file_by t f) (rest-bytes v few f byte t) (back t) ts (with-back byte x) ∙ ap (moved_by ts) (bytes_back v few f byte t (first-went v few x)))
      ∙ file-back f byte ts (tail-fits x)

  pub words_back : (f : List ℕ) → OfBytes f → (ts : List Task) → Fits v f ts → (d : List ℤ) → length d ≡ v.words
      → exchanged_by (map back ts) (exchanged_by ts d) ≡ d
  unfolding exchanged_by
  words_back f byte [] x d l = refl
  words_back f byte (t ∷ ts) x d l =
      let w = first-went v few x in
      ap (exchanged_by (map back ts))
      (pass-table (file_by t f) (rest-bytes v few f byte t) (back t) ts (with-back byte x) (exchanged t.block t.place d) (table-size w d l)
      ∙ ap (exchanged_by ts) (table-back v few f byte t w d l))
      ∙ words_back f byte ts (tail-fits x) d l
